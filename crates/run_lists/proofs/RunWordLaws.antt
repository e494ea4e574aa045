-- Laws of runs read from words.
use Rattle.model.proofs.Prelude.{ℕ, ◌≤◌, ◌<◌, ◌+◌, ◌-◌, ◌*◌, suc, zero, ◌≡◌, ◌∙◌, ap, refl, ap₂, List, [], ◌∷◌, ◌++◌, length, get_or, drop, get_or-drop}
use Rattle.model.proofs.Prelude.{add-zero, arith}
use Rattle.model.specs.Runs.{Run, Separated, run}
use Rattle.model.specs.Store.{runs_at}
use Rattle.model.proofs.BoolLaws.{cases}
use Rattle.run_lists.specs.RunLists.{RunWithin, Sound, run_at, runs_in_words}
use Rattle.run_lists.proofs.MemberLaws.{run-path}

pub length_runs : (ws : List ℕ) (i k : ℕ) → length (runs_in_words ws i k) ≡ k
length_runs ws i zero = refl
length_runs ws i (suc k) = ap suc (length_runs ws (i + 1) k)

pub runs-snoc : (ws : List ℕ) (i k : ℕ) → runs_in_words ws i (suc k) ≡ runs_in_words ws i k ++ run_at ws (i + k) ∷ []
runs-snoc ws i zero = rw (add-zero i)
runs-snoc ws i (suc k) =
    let e : i + 1 + k ≡ i + suc k = omega arith in
    ap {B = List Run} (λ t. run_at ws i ∷ t) (rw e at (runs-snoc ws (i + 1) k))

pub runs-next : (ws : List ℕ) (i to : ℕ) → i < to → runs_in_words ws i (to - i) ≡ run_at ws i ∷ runs_in_words ws (i + 1) (to - (i + 1))
runs-next ws i to h = let e : to - i ≡ suc (to - (i + 1)) = omega arith in rw e

-- each run of a sound list lies within its bounds
run-within : (b n : ℕ) (ws : List ℕ) (f k i : ℕ) → 1 ≤ b → Separated n b (runs_in_words ws f k) → f ≤ i → i < f + k → RunWithin n (run_at ws i)
run-within b n ws f zero i p u h l = absurd (omega arith)
run-within b n ws f (suc k) i p u h l = cases (f + 1) i
    (λ q. run-within (get_or ws (2 * f + 1) 0 + 2) n ws (f + 1) k i (omega arith) u.3 q (omega arith))
    (λ q. let e : i ≡ f = omega arith in rw e (record { least = omega arith; order = u.1; most = u.2 }))

pub sound-at : (n : ℕ) (ws : List ℕ) (from to i : ℕ) → Sound n (runs_in_words ws from (to - from)) → from ≤ i → i < to → RunWithin n (run_at ws i)
sound-at n ws from to i u h l = run-within 1 n ws from (to - from) i (omega arith) u h (omega arith)

-- ---- the part of a store's words that begins at its first place

pub runs-of_part : (ws : List ℕ) (h i n : ℕ) → runs_in_words (drop h ws) i n ≡ runs_at ws (h + 2 * i) n
runs-of_part ws h i zero = refl
runs-of_part ws h i (suc n) =
    let p : h + (2 * i + 1) ≡ suc (h + 2 * i) = omega arith in
    let q : h + 2 * (i + 1) ≡ suc (suc (h + 2 * i)) = omega arith in
    ap₂ {C = List Run} (λ r rs. r ∷ rs)
    (run-path {r = run_at (drop h ws) i} {s = run (get_or ws (h + 2 * i) 0) (get_or ws (suc (h + 2 * i)) 0)} (get_or-drop h ws (2 * i) 0) (get_or-drop h ws (2 * i + 1) 0 ∙ ap (λ k. get_or ws k 0) p))
    (runs-of_part ws h (i + 1) n ∙ ap (λ k. runs_at ws k n) q)
