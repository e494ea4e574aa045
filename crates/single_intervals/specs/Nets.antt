-- The runs of one net after the other in the first quarter of the working words.
use Rattle.std.specs.Prelude.{ℕ, ◌*◌, ◌≤◌, ◌<◌, ◌≡◌, List, length, get_or}
use Rattle.model.specs.Store.{max_runs}
use Rattle.model.specs.Netlist.{nets}
use Rattle.model.specs.Runs.{Run}
use Rattle.netlist.specs.Tables.{CircuitTables}
use Rattle.netlist.specs.declared.inner.Shape.{Shape}
use Rattle.run_lists.specs.RunLists.{runs_in_words}
use Rattle.detection.specs.Cases.{Case, set_runs_of, working}
use Rattle.detection.specs.Walks.{runs_before, Kept}
use Rattle.single_intervals.specs.Edges.{OpenBits}
use Rattle.std.specs.Prelude.{Option, Some, None}

-- the runs of the nets before `net` stand in the words, one net after the other; `starts` says where each net's begin, `start` is the place after them
pub record Stand (netRuns : ℕ → List Run) (ws starts : List ℕ) (net start : ℕ) : Type 0 where
  pub used : start ≡ runs_before netRuns net
  pub fits : start ≤ max_runs
  pub start_room : length starts ≡ 513
  pub starts_are : (q : ℕ) → q ≤ net → get_or starts q 0 ≡ runs_before netRuns q
  pub runs_are : (q : ℕ) → q < net → runs_in_words ws (runs_before netRuns q) (length (netRuns q)) ≡ netRuns q

-- the tables of a case, and the runs of its inputs, `first` of them
pub record NetsAt (K : Case) (file positions pathCounts masks : List ℕ) (shape : Shape) (ws starts : List ℕ) (first : ℕ) : Type 0 where
  pub tables : CircuitTables K.netlist file positions pathCounts shape
  pub open_pins : OpenBits K masks
  pub room : 2 * max_runs ≤ length ws
  pub inputs_stand : Stand (set_runs_of K) ws starts shape.inputs first

pub record SomeNetsAt (file positions pathCounts masks : List ℕ) (shape : Shape) (ws starts : List ℕ) (first : ℕ) : Type 0 where
  pub case : Case
  pub at-nets : NetsAt case file positions pathCounts masks shape ws starts first

-- the runs of all nets; Full only where they are over 1,024
pub record NetsMade (K : Case) (ws ws' starts' : List ℕ) (r : Option ℕ) : Type 0 where
  pub kept : Kept ws ws'
  pub stand : (n : ℕ) → r ≡ Some n → Stand (set_runs_of K) ws' starts' (nets K.netlist) n
  pub full : r ≡ None → max_runs < working K
