-- One record of a block on a sound store: what its place Work is handed.
use Rattle.std.specs.Prelude.{List, ℕ, ◌+◌, get_or}
use Rattle.model.specs.Netlist.{Netlist, nets}
use Rattle.model.specs.Path.{rising, falling}
use Rattle.model.specs.Detect.{Test}
use Rattle.store_coverage.specs.Stage.{MemoryReady}
use Rattle.block_words.specs.Table.{CircuitTable}
use Rattle.detection.specs.Cases.{case_of}
use Rattle.block_activity.specs.Marks.{OffsetTable, ListedEdge}
use Rattle.block_intervals.specs.Spans.{InputSpans}
use Rattle.block_stage.specs.declared.inner.listed.RecordEdges.{RecordEdges}
use Rattle.block_activity.specs.Layout.{up_outs_at, down_outs_at}

-- record t of a block, from the words of its marks
abbrev pub edges_at : List ℕ → ℕ → ℕ → ℕ → RecordEdges
edges_at marks t n outputs = record {
  rises = get_or marks t 0;
  falls = get_or marks (64 + t) 0;
  up_outs = get_or marks (up_outs_at + t) 0;
  down_outs = get_or marks (down_outs_at + t) 0;
  inputs = n;
  outputs = outputs;
}

-- the tables of a netlist, the lists and the marks of a test, the spans of the inputs, and a sound store
pub record ListedBoth (N : Netlist) (t : Test) (table offsets risingList fallingList : List ℕ) (edges : RecordEdges) (ws spans work : List ℕ) : Type 0 where
  pub circuit : CircuitTable N table edges.inputs (nets N)
  pub placed : OffsetTable N offsets
  pub rises : ListedEdge (case_of N t rising) risingList edges.rises edges.up_outs
  pub falls : ListedEdge (case_of N t falling) fallingList edges.falls edges.down_outs
  pub input_spans : InputSpans spans edges.inputs
  pub memory : MemoryReady N ws work

-- the same of some test
pub record SomeListedBoth (table offsets risingList fallingList : List ℕ) (edges : RecordEdges) (ws spans work : List ℕ) : Type 0 where
  pub circuit : Netlist
  pub test : Test
  pub listed : ListedBoth circuit test table offsets risingList fallingList edges ws spans work
