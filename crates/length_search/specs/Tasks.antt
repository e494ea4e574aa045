-- What the functions that look for untested paths are handed.
use Rattle.std.specs.Prelude.{◌≡◌, List, ℕ, ◌/◌, ◌≤◌, ◌<◌, length}
use Rattle.model.specs.Netlist.{path_total}
use Rattle.model.specs.Runs.{Run}
use Rattle.netlist.specs.declared.inner.Shape.{Shape}
use Rattle.run_lists.specs.RunLists.{Sound, runs_in_words}
use Rattle.length_rows.specs.Lengths.{lengths, paths_up_to}
use Rattle.length_ranks.specs.NetRows.{RowTables, Ranked}

-- a range of path numbers, those over `low` up to `high`, in which there is a path of `l` gates
pub record Somewhere (file positions counts : List ℕ) (shape : Shape) (rows : List (List ℕ)) (l low high : ℕ) : Type 0 where
  pub ranked : Ranked file positions counts shape rows high
  pub short : l < lengths
  pub order : low ≤ high
  pub some : paths_up_to ranked.known.circuit l low < paths_up_to ranked.known.circuit l high

-- runs of path numbers in words, two for each, and where to look from
pub record Looked (file positions counts : List ℕ) (shape : Shape) (rows : List (List ℕ)) (total : ℕ) (ws : List ℕ) (l from : ℕ) : Type 0 where
  pub known : RowTables file positions counts shape rows
  pub total_is : total ≡ path_total known.circuit
  pub apart : Sound total (runs_in_words ws 0 (length ws / 2))
  pub short : l < lengths
  pub low : 1 ≤ from

-- the runs in words
abbrev pub all_runs : List ℕ → List Run
all_runs ws = runs_in_words ws 0 (length ws / 2)
