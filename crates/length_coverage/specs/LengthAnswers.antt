-- What coverage by length answers, by document 02's numbers and rows, and what the functions below it are handed.
use Rattle.std.specs.Prelude.{◌≡◌, Bool, List, [], ◌∷◌, ℕ, ◌/◌, length, get_or, Result}
use Rattle.model.specs.Base.{Answer, value, ◌then◌, checks}
use Rattle.model.specs.Netlist.{Netlist, path_total}
use Rattle.model.specs.Returned.{answer_by}
use Rattle.model.specs.Runs.{in_runs}
use Rattle.model.specs.Store.{ByEdge, by_edge}
use Rattle.model.specs.declared.Refusal.{Refusal}
use Rattle.netlist.specs.Tables.{CircuitTables}
use Rattle.netlist.specs.declared.inner.Shape.{Shape}
use Rattle.run_lists.specs.RunLists.{Sound, runs_in_words}
use Rattle.store_words.specs.Sound.{SoundWords}
use Rattle.length_rows.specs.Lengths.{Rows, rows_of, length_rule}
use Rattle.length_ranks.specs.NetRows.{RowTables}
use Rattle.length_coverage.specs.declared.LengthRows.{LengthRows}

-- the rows of an edge as the code hands them over: the paths by length, then the faults held
abbrev pub rows_in : List (List ℕ) → Rows
rows_in rows = record { paths = get_or rows 0 []; held = get_or rows 1 [] }

abbrev pub rows_in_both : LengthRows → ByEdge Rows
rows_in_both r = record { on_rising = rows_in r.rising; on_falling = rows_in r.falling }

-- coverage by length: the number of a refusal, or the rows of both edges
abbrev pub lengths_of : Result LengthRows Refusal → Answer (ByEdge Rows)
lengths_of = answer_by rows_in_both

-- the call once store length, netlist and the store's words are passed
unfoldable pub lengths_on : Netlist → List ℕ → Answer (ByEdge Rows)
lengths_on N ws = checks (length_rule N ∷ []) then value (by_edge (rows_of N ws))

-- the tables of a legal netlist and a sound store
pub record Countable (file positions counts : List ℕ) (shape : Shape) (total : ℕ) (ws : List ℕ) : Type 0 where
  pub circuit : Netlist
  pub tables : CircuitTables circuit file positions counts shape
  pub total_is : total ≡ path_total circuit
  pub sound : SoundWords total ws

-- with the rows of the nets
pub record CountableRows (file positions counts : List ℕ) (shape : Shape) (total : ℕ) (ws : List ℕ) (rows : List (List ℕ)) : Type 0 where
  pub known : RowTables file positions counts shape rows
  pub total_is : total ≡ path_total known.circuit
  pub sound : SoundWords total ws

-- runs of path numbers in words, two words for each
abbrev pub in_words : List ℕ → ℕ → Bool
in_words ws = in_runs (runs_in_words ws 0 (length ws / 2))

pub record RunsRanked (file positions counts : List ℕ) (shape : Shape) (rows : List (List ℕ)) (ws : List ℕ) : Type 0 where
  pub known : RowTables file positions counts shape rows
  pub apart : Sound (path_total known.circuit) (runs_in_words ws 0 (length ws / 2))
