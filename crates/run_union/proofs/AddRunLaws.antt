-- One run more at the end of a list, and several: the numbers, the order and the length that they leave.
use Rattle.model.proofs.Prelude.{ℕ, ◌≤◌, ◌<◌, ◌+◌, suc, zero, max, ◌≡◌, ◌∙◌, ap, refl, sym, ◌||◌, or-false, or_assoc, List, [], ◌∷◌, ◌++◌, length}
use Rattle.model.proofs.Prelude.{take, not-suc-le-zero, le_of_suc-le-suc, le_trans, le_refl, arith, le-leb, lt-leb}
use Prim.Native.Nat.{zero-le, suc-le-suc}
use Rattle.model.proofs.BoolLaws.{cases}
use Rattle.model.specs.Runs.{Run, Separated, run}
use Rattle.run_lists.specs.RunLists.{joined, add_run, add_runs}
use Rattle.run_lists.proofs.MemberLaws.{inside, member, inside-in, inside-lt, inside-gt}

-- every run of the list starts at m or lower
abbrev pub LowsLe : ℕ → List Run → Type 0
LowsLe m [] = Unit {0}
LowsLe m (r ∷ rs) = (r.low ≤ m) × LowsLe m rs

pub lows-mono : (m k : ℕ) (rs : List Run) → m ≤ k → LowsLe m rs → LowsLe k rs
lows-mono m k [] h l = tt
lows-mono m k (r ∷ rs) h l = (omega arith, lows-mono m k rs h l.1)

pub joined-one : (c r : Run) → r.low ≤ c.high + 1 → joined c r ≡ run c.low (max c.high r.high) ∷ []
unfolding joined
joined-one c r h = rw (le-leb r.low (c.high + 1) h)

pub joined-two : (c r : Run) → c.high + 1 < r.low → joined c r ≡ c ∷ r ∷ []
unfolding joined
joined-two c r h = rw (lt-leb r.low (c.high + 1) h)

pub add_run-snoc : (s : List Run) (c r : Run) → add_run (s ++ c ∷ []) r ≡ s ++ joined c r
add_run-snoc [] c r = refl
add_run-snoc (d ∷ []) c r = refl
add_run-snoc (d ∷ e ∷ s) c r = ap {B = List Run} (λ t. d ∷ t) (add_run-snoc (e ∷ s) c r)

pub add_run-sound : (b n : ℕ) (s : List Run) (r : Run) → Separated n b s → LowsLe r.low s → b ≤ r.low → r.low ≤ r.high → r.high ≤ n → Separated n b (add_run s r)
add_run-sound b n [] r u l p q t = (p, q, t, tt)
add_run-sound b n (c ∷ []) r u l p q t = cases r.low (c.high + 1)
    (λ h. rw (joined-one c r h) (u.0, omega arith, omega arith, tt))
    (λ h. rw (joined-two c r h) (u.0, u.1, u.2, (omega arith, q, t, tt)))
add_run-sound b n (c ∷ d ∷ s) r u l p q t = (u.0, u.1, u.2, add_run-sound (c.high + 2) n (d ∷ s) r u.3 l.1 (omega arith) q t)

pub add_run-lows : (m : ℕ) (s : List Run) (r : Run) → LowsLe m s → r.low ≤ m → LowsLe m (add_run s r)
add_run-lows m [] r l h = (h, tt)
add_run-lows m (c ∷ []) r l h = cases r.low (c.high + 1)
    (λ k. rw (joined-one c r k) (l.0, tt))
    (λ k. rw (joined-two c r k) (l.0, (h, tt)))
add_run-lows m (c ∷ d ∷ s) r l h = (l.0, add_run-lows m (d ∷ s) r l.1 h)

inside-join : (x : ℕ) (c r : Run) → c.low ≤ r.low → r.low ≤ c.high + 1
    → inside x (run c.low (max c.high r.high)) ≡ inside x c || inside x r
inside-join x c r l h =
    cases c.low x
    (λ p. cases x c.high
    (λ q. rw (inside-in x j p (omega arith), inside-in x c p q))
    (λ q. cases x r.high
    (λ t. rw (inside-in x j p (omega arith), inside-gt x c q, inside-in x r (omega arith) t))
    (λ t. rw (inside-gt x j (omega arith), inside-gt x c q, inside-gt x r t))))
    (λ p. rw (inside-lt x j p, inside-lt x c p, inside-lt x r (omega arith)))
  where
    j : Run
    j = run c.low (max c.high r.high)

pub add_run-member : (x : ℕ) (s : List Run) (r : Run) → LowsLe r.low s → member x (add_run s r) ≡ member x s || inside x r
add_run-member x [] r l = or-false (inside x r)
add_run-member x (c ∷ []) r l = cases r.low (c.high + 1)
    (λ h. rw (joined-one c r h) (rw (or-false, or-false) (inside-join x c r l.0 h)))
    (λ h. rw (joined-two c r h) (simp (or-false)))
add_run-member x (c ∷ d ∷ s) r l = rw (add_run-member x (d ∷ s) r l.1) (sym (or_assoc (inside x c) (member x (d ∷ s)) (inside x r)))

-- ---- several runs at the end

-- runs within n whose lows ascend from m on
abbrev pub Asc : ℕ → ℕ → List Run → Type 0
Asc m n [] = Unit {0}
Asc m n (r ∷ rs) = (m ≤ r.low) × (r.low ≤ r.high) × (r.high ≤ n) × Asc r.low n rs

pub sound-asc : (b m n : ℕ) (rs : List Run) → m ≤ b → Separated n b rs → Asc m n rs
sound-asc b m n [] h u = tt
sound-asc b m n (r ∷ rs) h u = (omega arith, u.1, u.2, sound-asc (r.high + 2) r.low n rs (omega arith) u.3)

pub add_runs-sound : (b m n : ℕ) (s rs : List Run) → Separated n b s → LowsLe m s → b ≤ m → Asc m n rs → Separated n b (add_runs s rs)
add_runs-sound b m n s [] u l h a = u
add_runs-sound b m n s (r ∷ rs) u l h a =
    let l' : LowsLe r.low s = lows-mono m r.low s a.0 l in
    add_runs-sound b r.low n (add_run s r) rs
    (add_run-sound b n s r u l' (omega arith) a.1 a.2)
    (add_run-lows r.low s r l' (omega arith)) (omega arith) a.3

pub add_runs-member : (x m n : ℕ) (s rs : List Run) → LowsLe m s → Asc m n rs → member x (add_runs s rs) ≡ member x s || member x rs
add_runs-member x m n s [] l a = sym (or-false (member x s))
add_runs-member x m n s (r ∷ rs) l a =
    let l' : LowsLe r.low s = lows-mono m r.low s a.0 l in
    add_runs-member x r.low n (add_run s r) rs (add_run-lows r.low s r l' (omega arith)) a.3
    ∙ rw (add_run-member x s r l') (or_assoc (member x s) (inside x r) (member x rs))

pub add_runs-append : (s a b : List Run) → add_runs s (a ++ b) ≡ add_runs (add_runs s a) b
add_runs-append s [] b = refl
add_runs-append s (r ∷ a) b = add_runs-append (add_run s r) a b

-- ---- what one run more keeps

pub add_run-length : (s : List Run) (r : Run) → length s ≤ length (add_run s r)
add_run-length [] r = zero-le
add_run-length (c ∷ []) r = cases r.low (c.high + 1)
    (λ h. rw (joined-one c r h) (omega arith))
    (λ h. rw (joined-two c r h) (omega arith))
add_run-length (c ∷ d ∷ s) r = suc-le-suc (add_run-length (d ∷ s) r)

pub add_runs-length : (s rs : List Run) → length s ≤ length (add_runs s rs)
add_runs-length s [] = le_refl (length s)
add_runs-length s (r ∷ rs) = le_trans (add_run-length s r) (add_runs-length (add_run s r) rs)

-- all runs but the last are kept
pub add_run-take : (k : ℕ) (s : List Run) (r : Run) → k < length s → take k (add_run s r) ≡ take k s
add_run-take zero s r h = refl
add_run-take (suc k) [] r h = absurd (not-suc-le-zero h)
add_run-take (suc k) (c ∷ []) r h = absurd (not-suc-le-zero (le_of_suc-le-suc h))
add_run-take (suc k) (c ∷ d ∷ s) r h = ap {B = List Run} (λ t. c ∷ t) (add_run-take k (d ∷ s) r (le_of_suc-le-suc h))

pub add_runs-take : (k : ℕ) (s rs : List Run) → k < length s → take k (add_runs s rs) ≡ take k s
add_runs-take k s [] h = refl
add_runs-take k s (r ∷ rs) h = add_runs-take k (add_run s r) rs (le_trans h (add_run-length s r)) ∙ add_run-take k s r h
