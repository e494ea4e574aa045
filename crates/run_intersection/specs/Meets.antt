-- The numbers that two lists of runs have in common, as the runs that a walk along both gives.
use Rattle.std.specs.Prelude.{ℕ, max, min, Bool, ◌&&◌, cond, List, [], ◌∷◌, ◌++◌, leb, ltb}
use Rattle.model.specs.Runs.{Run, in_runs, run}

-- what two runs have in common: one run or none
unfoldable pub overlap : Run → Run → List Run
overlap x y = cond (leb (max x.low y.low) (min x.high y.high)) (run (max x.low y.low) (min x.high y.high) ∷ []) []

-- the run `x` and then others, of which `f` says what they have in common with a list: of two runs the one that ends first is passed
abbrev pub meet_into : Run → (List Run → List Run) → List Run → List Run
meet_into x f [] = []
meet_into x f (y ∷ ys) = overlap x y ++ cond (ltb x.high y.high) (f (y ∷ ys)) (meet_into x f ys)

-- what two lists have in common
abbrev pub meets : List Run → List Run → List Run
meets [] ys = []
meets (x ∷ xs) ys = meet_into x (λ zs. meets xs zs) ys

-- the number lies in a run of both lists
abbrev pub in_both : List Run → List Run → ℕ → Bool
in_both xs ys k = in_runs xs k && in_runs ys k
