-- Up to 64 tests by their vectors: what is handed over, and what they answer and leave.
use Rattle.std.specs.Prelude.{◌≡◌, List, ℕ, ◌≤◌, length}
use Rattle.model.specs.Netlist.{Netlist}
use Rattle.model.specs.Detect.{Test}
use Rattle.model.specs.Read.{class_of}
use Rattle.model.specs.Store.{store_words_count}
use Rattle.store_coverage.specs.Stage.{MemoryReady}
use Rattle.block_words.specs.Block.{BlockOf}
use Rattle.block_words.specs.Table.{CircuitTable}
use Rattle.block_words.specs.Layout.{lists_size}
use Rattle.block_activity.specs.Marks.{OffsetTable, VectorsOf}
use Rattle.block_activity.specs.declared.inner.Batch.{Batch}
use Rattle.block_stage.specs.BlockStage.{BlockTaken}
use Rattle.block_stage.specs.declared.inner.Applied.{Applied}
use Rattle.audit_block.specs.FileBlocks.{RoomKept}

-- tests of a netlist in one class: its tables, and the words of their vectors
pub record TestsAt (N : Netlist) (tests : ℕ → Test) (table offsets : List ℕ) (batch : Batch) (vectors : List ℕ) : Type 0 where
  pub circuit : CircuitTable N table batch.inputs batch.nets
  pub placed : OffsetTable N offsets
  pub outputs_are : length N.outputs ≡ batch.outputs
  pub block : BlockOf tests (class_of batch.class) batch.records
  pub vectors_are : VectorsOf N tests batch.records vectors

-- some tests of some netlist, a store that passes its rules, and room for the lists of a block
pub record TestsReady (table offsets : List ℕ) (batch : Batch) (vectors risingLists fallingLists ws work : List ℕ) : Type 0 where
  pub netlist : Netlist
  pub tests : ℕ → Test
  pub given : TestsAt netlist tests table offsets batch vectors
  pub memory : MemoryReady netlist ws work
  pub up_room_of : lists_size ≤ length risingLists
  pub down_room : lists_size ≤ length fallingLists

-- the place Work with each, on the store that the one before it left
pub record TestsTaken (r : Applied) (table offsets : List ℕ) (batch : Batch) (vectors risingLists risingLists' fallingLists fallingLists' ws ws' work work' : List ℕ) : Type 0 where
  pub store_length : length ws' ≡ store_words_count
  pub kept : RoomKept risingLists risingLists' fallingLists fallingLists' work work'
  pub of_tests : (N : Netlist) (tests : ℕ → Test) → TestsAt N tests table offsets batch vectors → MemoryReady N ws work
      → BlockTaken r N tests batch.records ws ws'
