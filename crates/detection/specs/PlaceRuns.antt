-- The runs that a gate's pins, or the outputs, add one after the other, each shifted by the paths of the places before it.
use Rattle.std.specs.Prelude.{ℕ, zero, suc, ◌+◌, Bool, List, []}
use Rattle.model.specs.Runs.{Run}
use Rattle.run_lists.specs.RunLists.{only_if, add_runs, shift_runs}

-- a gate's pins, or the outputs: the net at each place, whether the place is open, from the place and its net, and how many paths a net has there
pub record Places : Type 0 where
  pub net_of : ℕ → ℕ
  pub opens : ℕ → ℕ → Bool
  pub paths : ℕ → ℕ

-- the paths of the places before p
abbrev pub paths_before : Places → ℕ → ℕ
paths_before P zero = 0
paths_before P (suc p) = paths_before P p + P.paths (P.net_of p)

-- what a place adds: the runs of its net, shifted by the paths of the places before, where it is open
abbrev pub place_runs : Places → (ℕ → List Run) → ℕ → List Run
place_runs P netRuns p = only_if (P.opens p (P.net_of p)) (shift_runs (paths_before P p) (netRuns (P.net_of p)))

-- the runs of the first n places
unfoldable pub first_runs : Places → (ℕ → List Run) → ℕ → List Run
first_runs P netRuns zero = []
first_runs P netRuns (suc n) = add_runs (first_runs P netRuns n) (place_runs P netRuns n)
