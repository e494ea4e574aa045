-- Membership in a list of runs, and what it says of the runs of a set.
use Rattle.model.proofs.Prelude.{ℕ, ◌≤◌, ◌<◌, ◌+◌, ◌-◌, ◌≡◌, ◌∙◌, ap, refl, sym, subst, true, Bool, false, ◌&&◌, ◌||◌, and-false, List, [], ◌∷◌, leb}
use Rattle.model.proofs.Prelude.{T, arith, le-leb, lt-leb}
use Rattle.std.proofs.Common.{zero-le}
use Rattle.model.specs.Runs.{Run, runs_among, in_run, in_runs, size, Separated}
use Rattle.model.proofs.RunLaws.{runs-test, runs_by, in→, →in, in_low, in_high}
use Rattle.run_lists.specs.RunLists.{Sound}

pub run-path : {r s : Run} → r.low ≡ s.low → r.high ≡ s.high → r ≡ s
run-path p q = λ i. record { low = p i; high = q i }

-- ---- membership in a run: the model's test, in a form that computes run by run

unfoldable pub inside : ℕ → Run → Bool
inside x r = leb r.low x && leb x r.high

abbrev pub member : ℕ → List Run → Bool
member x [] = false
member x (r ∷ rs) = inside x r || member x rs

pub member-in : (x : ℕ) (rs : List Run) → member x rs ≡ in_runs rs x
unfolding inside in_runs
member-in x [] = refl
member-in x (r ∷ rs) = ap (λ (t : Bool). in_run r x || t) (member-in x rs)

pub inside-in : (x : ℕ) (r : Run) → r.low ≤ x → x ≤ r.high → inside x r ≡ true
unfolding inside
inside-in x r h k = simp (le-leb r.low x h, le-leb x r.high k)

pub inside-lt : (x : ℕ) (r : Run) → x < r.low → inside x r ≡ false
unfolding inside
inside-lt x r h = simp (lt-leb r.low x h)

pub inside-gt : (x : ℕ) (r : Run) → r.high < x → inside x r ≡ false
unfolding inside
inside-gt x r h = simp (lt-leb x r.high h, and-false)

-- ---- numbers outside the bounds of a list

pub below : (b n x : ℕ) (rs : List Run) → Separated n b rs → x < b → member x rs ≡ false
below b n x [] s h = refl
below b n x (r ∷ rs) s h = rw (inside-lt x r (omega arith)) (below (r.high + 2) n x rs s.3 (omega arith))

pub above : (b n x : ℕ) (rs : List Run) → Separated n b rs → n < x → member x rs ≡ false
above b n x [] u h = refl
above b n x (r ∷ rs) u h = rw (inside-gt x r (omega arith)) (above (r.high + 2) n x rs u.3 h)

-- ---- the runs of a set

pub sound-mono : (b n k : ℕ) (rs : List Run) → n ≤ k → Separated n b rs → Separated k b rs
sound-mono b n k [] h u = tt
sound-mono b n k (r ∷ rs) h u = (u.0, u.1, omega arith, sound-mono (r.high + 2) n k rs h u.3)

pub runs_of-member : (P : ℕ → Bool) (n x : ℕ) → 1 ≤ x → x ≤ n → member x (runs_among P n) ≡ P x
runs_of-member P n x h k = member-in x (runs_among P n) ∙ runs-test P n x h k

-- the one sound list with the members of a set is the set's runs
pub runs_of-unique : (P : ℕ → Bool) (n : ℕ) (rs : List Run) → Sound n rs → ((x : ℕ) → 1 ≤ x → x ≤ n → member x rs ≡ P x) → rs ≡ runs_among P n
runs_of-unique P n rs u e =
    let same : (x : ℕ) → 1 ≤ x → x ≤ n → in_runs rs x ≡ P x = λ x h k. sym (member-in x rs) ∙ e x h k in
    runs_by P n rs u
    (λ x t. subst T (same x (in_low n 1 rs x u t) (in_high n 1 rs x u t)) (→in rs x t))
    (λ x h k t. in→ rs x (subst T (sym (same x h k)) t))

-- ---- size

pub size-le : (b n : ℕ) (rs : List Run) → Separated n b rs → size rs ≤ n + 1 - b
unfolding size
size-le b n [] u = zero-le
size-le b n (r ∷ rs) u = omega (arith, size-le (r.high + 2) n rs u.3)
