-- Where the runs of a net stand, by reference and shift: a net with one active pin has the runs of that pin's net, shifted; they are not copied.
use Rattle.std.specs.Prelude.{◌≡◌, true, List, ℕ, ◌+◌, ◌-◌, ◌*◌, ◌^◌, ◌≤◌, ◌<◌, length, get_or}
use Rattle.model.specs.Netlist.{nets}
use Rattle.model.specs.Runs.{Run}
use Rattle.model.specs.Store.{max_runs}
use Rattle.run_lists.specs.RunLists.{Sound, shift_runs, runs_in_words}
use Rattle.detection.specs.Cases.{Case, set_runs_of, working}
use Rattle.detection.specs.Walks.{runs_before, Kept}
use Rattle.block_words.specs.Block.{live_net}
use Rattle.block_words.specs.Table.{CircuitTable}
use Rattle.block_activity.specs.Marks.{OffsetTable, ListedEdge}
use Rattle.block_intervals.specs.Layout.{spans_size, ends_at, shifts_at, rising_sections, falling_sections}
use Rattle.std.specs.Prelude.{Option, Some, None}

-- of a net: the run place of its first run, the place after its last, and by how much its runs are higher than those that stand there
abbrev pub first_of : List ℕ → ℕ → ℕ
first_of spans net = get_or spans net 0

abbrev pub end_of : List ℕ → ℕ → ℕ
end_of spans net = get_or spans (ends_at + net) 0

abbrev pub shift_of : List ℕ → ℕ → ℕ
shift_of spans net = get_or spans (shifts_at + net) 0

abbrev pub standing : List ℕ → List ℕ → ℕ → List Run
standing spans ws net = runs_in_words ws (first_of spans net) (end_of spans net - first_of spans net)

-- the runs of a net's set stand before run place `made`
pub record SpanIs (K : Case) (spans ws : List ℕ) (made net : ℕ) : Type 0 where
  pub ordered : first_of spans net ≤ end_of spans net
  pub before : end_of spans net ≤ made
  pub small : shift_of spans net ≤ 2 ^ 62
  pub sound : Sound (2 ^ 62) (standing spans ws net)
  pub runs : shift_runs (shift_of spans net) (standing spans ws net) ≡ set_runs_of K net

-- the sections of an edge's held runs, one for each output, from place `base` on: each begins no lower than the one before it and no higher than the last ends.
-- Where they are begun says nothing of the runs: what is looked for in a section is compared with the run that is found.
pub record Ascending (spans : List ℕ) (base : ℕ) : Type 0 where
  pub next : (o : ℕ) → o < 64 → get_or spans (base + o) 0 ≤ get_or spans (base + o + 1) 0
  pub most : (o : ℕ) → o ≤ 64 → get_or spans (base + o) 0 ≤ get_or spans (base + 64) 0

-- every input has the run at run place 0, which is 1 to 1 where it makes the edge; after the spans stand the sections of the rising and of the falling edge
pub record InputSpans (spans : List ℕ) (inputs : ℕ) : Type 0 where
  pub room : length spans ≡ spans_size
  pub rising : Ascending spans rising_sections
  pub falling : Ascending spans falling_sections
  pub firsts : (j : ℕ) → j < inputs → first_of spans j ≡ 0
  pub ends : (j : ℕ) → j < inputs → end_of spans j ≡ 1
  pub shifts : (j : ℕ) → j < inputs → shift_of spans j ≡ 0

-- what the record step is handed of a case: the tables of its netlist, its list and its marks, and room
pub record ListedAt (K : Case) (table offsets entries : List ℕ) (edges outs inputs : ℕ) (spans ws : List ℕ) : Type 0 where
  pub circuit : CircuitTable K.netlist table inputs (nets K.netlist)
  pub placed : OffsetTable K.netlist offsets
  pub listed : ListedEdge K entries edges outs
  pub input_spans : InputSpans spans inputs
  pub room : 4 * max_runs ≤ length ws

pub record SomeListedAt (table offsets entries : List ℕ) (edges inputs : ℕ) (spans ws : List ℕ) : Type 0 where
  pub case : Case
  pub outs : ℕ
  pub at-list : ListedAt case table offsets entries edges outs inputs spans ws

-- the runs of the listed nets: the number of all of them, those that stand and those by reference; Full only where the working runs are over 1,024
pub record SpansMade (K : Case) (inputs : ℕ) (ws ws' spans' : List ℕ) (r : Option ℕ) : Type 0 where
  pub kept : Kept ws ws'
  pub input_spans : InputSpans spans' inputs
  pub total : (n : ℕ) → r ≡ Some n → runs_before (set_runs_of K) inputs + n ≡ working K
  pub spans : (n : ℕ) → r ≡ Some n → (net : ℕ) → net < nets K.netlist → live_net K net ≡ true → SpanIs K spans' ws' max_runs net
  pub full : r ≡ None → max_runs < working K
