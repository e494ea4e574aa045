-- The runs of places one after the other: those of a set, none, or as few as their nets have.
use Rattle.model.proofs.Prelude.{ℕ, ◌≤◌, ◌<◌, ◌+◌, suc, zero, ◌≡◌, ◌∙◌, ap, refl, ap₂, true, Bool, false, List, [], ◌∷◌, length, get_or, arith}
use Prim.Native.Nat.{zero-le}
use Rattle.model.specs.Base.{sum_of}
use Rattle.model.specs.Path.{counts_before}
use Rattle.model.specs.Runs.{Run, runs_among}
use Rattle.model.proofs.NumberLaws.{counts_before-suc, counts_before-all}
use Rattle.model.proofs.RunLaws.{runs_by}
use Rattle.run_lists.specs.RunLists.{only_if, add_run, add_runs, shift_runs}
use Rattle.model.proofs.BoolLaws.{cases}
use Rattle.run_union.proofs.AddRunLaws.{joined-one, joined-two}
use Rattle.detection.specs.PlaceRuns.{Places, paths_before, place_runs, first_runs}

-- a place that is open or not, with as many paths and these runs at its net
pub record PlaceIs (P : Places) (f : ℕ → List Run) (p : ℕ) (is_open : Bool) (paths : ℕ) (runs : List Run) : Type 0 where
  pub opens_are : P.opens p (P.net_of p) ≡ is_open
  pub paths_are : P.paths (P.net_of p) ≡ paths
  pub runs_are : f (P.net_of p) ≡ runs

before-all : (p : ℕ) (cs : List ℕ) → counts_before p cs ≤ sum_of cs
before-all zero cs = zero-le
before-all (suc p) [] = zero-le
before-all (suc p) (c ∷ cs) = omega (arith, before-all p cs)

-- places by a list of their counts
module _ (P : Places) (f : ℕ → List Run) (cs : List ℕ) (b : ℕ → Bool) (s : ℕ → List Run) (is : (p : ℕ) → p < length cs → PlaceIs P f p (b p) (get_or cs p 0) (s p)) where
  paths-before : (p : ℕ) → p ≤ length cs → paths_before P p ≡ counts_before p cs
  paths-before zero l = refl
  paths-before (suc p) l = omega (arith, paths-before p (omega arith), (is p l).paths_are, counts_before-suc cs p l)

  pub paths-most : (p : ℕ) → p ≤ length cs → paths_before P p ≤ sum_of cs
  paths-most p l = omega (arith, paths-before p l, before-all p cs)

  -- each place adds the next numbers of a set
  module _ (S : ℕ → Bool) (adds : (p : ℕ) → p < length cs
      → add_runs (runs_among S (counts_before p cs)) (only_if (b p) (shift_runs (counts_before p cs) (s p))) ≡ runs_among S (counts_before (suc p) cs)) where
    first-before : (n : ℕ) → n ≤ length cs → first_runs P f n ≡ runs_among S (counts_before n cs)
    unfolding first_runs
    first-before zero l = runs_by S 0 [] tt (λ j t. absurd t) (λ j l h t. absurd (omega arith))
    first-before (suc n) l =
        (λ j. add_runs (first-before n (omega arith) j) (only_if ((is n l).opens_are j) (shift_runs (paths-before n (omega arith) j) ((is n l).runs_are j)))) ∙ adds n l

    pub first-make : {n : ℕ} → n ≡ length cs → first_runs P f n ≡ runs_among S (sum_of cs)
    first-make e = ap (first_runs P f) e ∙ first-before (length cs) (omega arith) ∙ ap (runs_among S) (counts_before-all cs)

module _ (P : Places) (f : ℕ → List Run) where
  none : (b : Bool) (o : ℕ) (s : List Run) → s ≡ [] → only_if b (shift_runs o s) ≡ []
  none true o s e = rw e
  none false o s e = refl

  pub first-none : (n : ℕ) → ((p : ℕ) → p < n → f (P.net_of p) ≡ []) → first_runs P f n ≡ []
  unfolding first_runs
  first-none zero h = refl
  first-none (suc n) h = ap₂ add_runs (first-none n (λ p l. h p (omega arith))) (none (P.opens n (P.net_of n)) (paths_before P n) (f (P.net_of n)) (h n (omega arith)))

  length-place : (b : Bool) (o : ℕ) (s : List Run) → length (only_if b (shift_runs o s)) ≤ length s
  length-place false o s = omega arith
  length-place true o [] = omega arith
  length-place true o (r ∷ s) = omega (arith, length-place true o s)

  add_run-most : (s : List Run) (r : Run) → length (add_run s r) ≤ length s + 1
  add_run-most [] r = omega arith
  add_run-most (c ∷ []) r = cases r.low (c.high + 1) (λ h. rw (joined-one c r h) (omega arith)) (λ h. rw (joined-two c r h) (omega arith))
  add_run-most (c ∷ d ∷ s) r = omega (arith, add_run-most (d ∷ s) r)

  add_runs-most : (s rs : List Run) → length (add_runs s rs) ≤ length s + length rs
  add_runs-most s [] = omega arith
  add_runs-most s (r ∷ rs) = omega (arith, add_run-most s r, add_runs-most (add_run s r) rs)

  pub first-few : (n : ℕ) → length (first_runs P f (suc n)) ≤ length (first_runs P f n) + length (f (P.net_of n))
  unfolding first_runs
  first-few n = omega (arith, add_runs-most (first_runs P f n) (place_runs P f n), length-place (P.opens n (P.net_of n)) (paths_before P n) (f (P.net_of n)))
