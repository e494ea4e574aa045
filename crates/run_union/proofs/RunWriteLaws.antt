-- Laws of runs written to words.
use Rattle.model.proofs.Prelude.{ℕ, ◌≤◌, ◌<◌, ◌+◌, ◌*◌, suc, zero, ◌≡◌, ◌∙◌, ap, refl, List, [], ◌∷◌, ◌++◌, length, get_or, set, length-set}
use Rattle.model.proofs.Prelude.{get_or-set_same, get_or-set_other, not-suc-le-zero, le_of_suc-le-suc, arith}
use lib.Seq.{set-get_or, set-set, set_comm}
use Rattle.model.specs.Runs.{Run}
use Rattle.run_lists.specs.RunLists.{run_at, runs_in_words, write_runs_of}
use Rattle.run_lists.proofs.MemberLaws.{run-path}

pub length-write_runs : (ws : List ℕ) (i : ℕ) (s : List Run) → length (write_runs_of ws i s) ≡ length ws
length-write_runs ws i [] = refl
length-write_runs ws i (r ∷ s) = length-write_runs (set (set ws (2 * i) r.low) (2 * i + 1) r.high) (i + 1) s ∙ simp length-set

pub write_runs-snoc : (ws : List ℕ) (i k : ℕ) (s : List Run) (r : Run) → k ≡ i + length s
    → write_runs_of ws i (s ++ r ∷ []) ≡ set (set (write_runs_of ws i s) (2 * k) r.low) (2 * k + 1) r.high
write_runs-snoc ws i k [] r e = let e' : k ≡ i = omega arith in rw e'
write_runs-snoc ws i k (c ∷ s) r e = write_runs-snoc (set (set ws (2 * i) c.low) (2 * i + 1) c.high) (i + 1) k s r (omega arith)

pub write_runs-self : (ws : List ℕ) (i k : ℕ) → write_runs_of ws i (runs_in_words ws i k) ≡ ws
write_runs-self ws i zero = refl
write_runs-self ws i (suc k) =
    ap (λ (l : List ℕ). write_runs_of l (i + 1) (runs_in_words ws (i + 1) k))
    (ap (λ (l : List ℕ). set l (2 * i + 1) (get_or ws (2 * i + 1) 0)) (set-get_or ws (2 * i) 0) ∙ set-get_or ws (2 * i + 1) 0)
    ∙ write_runs-self ws (i + 1) k

pub get_d-write_runs : (ws : List ℕ) (i j : ℕ) (s : List Run) → j < 2 * i → get_or (write_runs_of ws i s) j 0 ≡ get_or ws j 0
get_d-write_runs ws i j [] h = refl
get_d-write_runs ws i j (r ∷ s) h =
    get_d-write_runs (set (set ws (2 * i) r.low) (2 * i + 1) r.high) (i + 1) j s (omega arith)
    ∙ get_or-set_other (set ws (2 * i) r.low) (2 * i + 1) j r.high 0 (omega arith)
    ∙ get_or-set_other ws (2 * i) j r.low 0 (omega arith)

-- a word after the runs that are written
pub get_d_after : (ws : List ℕ) (i j : ℕ) (s : List Run) → 2 * (i + length s) ≤ j → get_or (write_runs_of ws i s) j 0 ≡ get_or ws j 0
get_d_after ws i j [] h = refl
get_d_after ws i j (r ∷ s) h =
    get_d_after (set (set ws (2 * i) r.low) (2 * i + 1) r.high) (i + 1) j s (omega arith)
    ∙ get_or-set_other (set ws (2 * i) r.low) (2 * i + 1) j r.high 0 (omega arith)
    ∙ get_or-set_other ws (2 * i) j r.low 0 (omega arith)

pub runs-write_before : (ws : List ℕ) (i f k : ℕ) (s : List Run) → f + k ≤ i → runs_in_words (write_runs_of ws i s) f k ≡ runs_in_words ws f k
runs-write_before ws i f zero s h = refl
runs-write_before ws i f (suc k) s h =
    λ t. run-path {r = run_at (write_runs_of ws i s) f} {s = run_at ws f} (get_d-write_runs ws i (2 * f) s (omega arith)) (get_d-write_runs ws i (2 * f + 1) s (omega arith)) t
    ∷ runs-write_before ws i (f + 1) k s (omega arith) t

pub runs-write : (ws : List ℕ) (i : ℕ) (s : List Run) → 2 * (i + length s) ≤ length ws → runs_in_words (write_runs_of ws i s) i (length s) ≡ s
runs-write ws i [] h = refl
runs-write ws i (r ∷ s) h =
    λ t. run-path {r = run_at (write_runs_of w (i + 1) s) i} {s = r} lo hi t ∷ runs-write w (i + 1) s (simp length-set (omega arith)) t
  where
    w : List ℕ
    w = set (set ws (2 * i) r.low) (2 * i + 1) r.high

    lo : get_or (write_runs_of w (i + 1) s) (2 * i) 0 ≡ r.low
    lo = get_d-write_runs w (i + 1) (2 * i) s (omega arith)
        ∙ get_or-set_other (set ws (2 * i) r.low) (2 * i + 1) (2 * i) r.high 0 (omega arith)
        ∙ get_or-set_same ws (2 * i) r.low 0 (omega arith)

    hi : get_or (write_runs_of w (i + 1) s) (2 * i + 1) 0 ≡ r.high
    hi = get_d-write_runs w (i + 1) (2 * i + 1) s (omega arith)
        ∙ get_or-set_same (set ws (2 * i) r.low) (2 * i + 1) r.high 0 (simp length-set (omega arith))

pub set-write_runs : (ws : List ℕ) (i j v : ℕ) (s : List Run) → j < 2 * i → set (write_runs_of ws i s) j v ≡ write_runs_of (set ws j v) i s
set-write_runs ws i j v [] h = refl
set-write_runs ws i j v (r ∷ s) h =
    set-write_runs (set (set ws (2 * i) r.low) (2 * i + 1) r.high) (i + 1) j v s (omega arith)
    ∙ ap (λ (l : List ℕ). write_runs_of l (i + 1) s)
    (set_comm (set ws (2 * i) r.low) (2 * i + 1) j r.high v (omega arith)
    ∙ ap (λ (l : List ℕ). set l (2 * i + 1) r.high) (set_comm ws (2 * i) j r.low v (omega arith)))

-- a longer list written over a shorter one
pub write_runs-write_runs : (ws : List ℕ) (i : ℕ) (s t : List Run) → length s ≤ length t → write_runs_of (write_runs_of ws i s) i t ≡ write_runs_of ws i t
write_runs-write_runs ws i [] t h = refl
write_runs-write_runs ws i (r ∷ s) [] h = absurd (not-suc-le-zero h)
write_runs-write_runs ws i (r ∷ s) (q ∷ t) h =
    rw (set-write_runs w (i + 1) (2 * i) q.low s (omega arith), set-write_runs (set w (2 * i) q.low) (i + 1) (2 * i + 1) q.high s (omega arith), over)
    (write_runs-write_runs (set (set ws (2 * i) q.low) (2 * i + 1) q.high) (i + 1) s t (le_of_suc-le-suc h))
  where
    w : List ℕ
    w = set (set ws (2 * i) r.low) (2 * i + 1) r.high

    over : set (set w (2 * i) q.low) (2 * i + 1) q.high ≡ set (set ws (2 * i) q.low) (2 * i + 1) q.high
    over = rw (set_comm (set ws (2 * i) r.low) (2 * i + 1) (2 * i) r.high q.low (omega arith)) (simp set-set)

-- runs written one list after the other
pub write_append : (ws : List ℕ) (i k : ℕ) (s t : List Run) → k ≡ i + length s → write_runs_of (write_runs_of ws i s) k t ≡ write_runs_of ws i (s ++ t)
write_append ws i k [] t e = let e' : k ≡ i = omega arith in rw e'
write_append ws i k (r ∷ s) t e = write_append (set (set ws (2 * i) r.low) (2 * i + 1) r.high) (i + 1) k s t (omega arith)

-- runs written before others that are written already
pub write_swap : (ws : List ℕ) (i k : ℕ) (s t : List Run) → i + length s ≤ k → write_runs_of (write_runs_of ws k t) i s ≡ write_runs_of (write_runs_of ws i s) k t
write_swap ws i k [] t h = refl
write_swap ws i k (r ∷ s) t h =
    ap (λ (l : List ℕ). write_runs_of l (i + 1) s)
    (ap (λ (l : List ℕ). set l (2 * i + 1) r.high) (set-write_runs ws k (2 * i) r.low t (omega arith))
    ∙ set-write_runs (set ws (2 * i) r.low) k (2 * i + 1) r.high t (omega arith))
    ∙ write_swap (set (set ws (2 * i) r.low) (2 * i + 1) r.high) (i + 1) k s t (omega arith)
