-- What a walk over the nets leaves in the working words: the detected runs, or Full.
use Rattle.std.specs.Prelude.{ℕ, zero, suc, ◌+◌, ◌*◌, ◌≤◌, ◌≡◌, cond, List, [], ◌∷◌, leb, length, drop}
use Rattle.model.specs.Base.{bit}
use Rattle.model.specs.Runs.{Run, run}
use Rattle.model.specs.Store.{max_runs}
use Rattle.run_lists.specs.RunLists.{only_if, runs_in_words}
use Rattle.detection.specs.Cases.{Case, detected, working}
use Rattle.std.specs.Prelude.{Option, Some, None}

-- Full exactly where the working runs are over 1,024; else the number of the detected runs, which then stand in the second quarter
pub record Detects (K : Case) (ws ws' : List ℕ) (r : Option ℕ) : Type 0 where
  pub answers : r ≡ cond (leb (working K) max_runs) (Some (length (detected K))) None
  pub runs_are : (n : ℕ) → r ≡ Some n → runs_in_words ws' max_runs n ≡ detected K
  pub kept : (k : ℕ) → 4 * max_runs ≤ k → drop k ws' ≡ drop k ws

-- the runs of an input, by its bit: number 1 where it makes the edge
unfoldable pub input_runs_of : ℕ → ℕ → List Run
input_runs_of edges input = only_if (bit edges input) (run 1 1 ∷ [])

-- how many runs the first n nets have
abbrev pub runs_before : (ℕ → List Run) → ℕ → ℕ
runs_before netRuns zero = 0
runs_before netRuns (suc n) = runs_before netRuns n + length (netRuns n)

-- no word past the first quarter, in which the nets' runs are made, is changed
pub record Kept (ws ws' : List ℕ) : Type 0 where
  pub same : length ws' ≡ length ws
  pub above : (k : ℕ) → 2 * max_runs ≤ k → drop k ws' ≡ drop k ws
