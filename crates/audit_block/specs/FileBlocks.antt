-- The records of a test file in blocks of up to 64: what is handed over, and what a block answers and leaves.
use Rattle.std.specs.Prelude.{◌≡◌, List, ℕ, ◌+◌, ◌*◌, ◌≤◌, length, drop}
use Rattle.model.specs.Base.{refused}
use Rattle.model.specs.Netlist.{Netlist}
use Rattle.model.specs.Detect.{Class}
use Rattle.model.specs.Read.{class_of, record_length}
use Rattle.model.specs.Refusals.{refusal_number_of}
use Rattle.model.specs.declared.Refusal.{Refusal}
use Rattle.model.specs.Calls.{work_words_count}
use Rattle.model.specs.Report.{file_records, test_all}
use Rattle.netlist.specs.Tables.{CircuitTables}
use Rattle.netlist.specs.declared.inner.Shape.{Shape}
use Rattle.store_coverage.specs.Stage.{MemoryReady}
use Rattle.block_words.specs.Table.{CircuitTable}
use Rattle.block_activity.specs.Marks.{OffsetTable}
use Rattle.audit_block.specs.declared.inner.TakenRecords.{TakenRecords}
use Rattle.audit_block.specs.declared.inner.FileNumbers.{FileNumbers}
use Rattle.audit_block.specs.RecordsTaken.{taken_of}
use Rattle.block_words.specs.Layout.{lists_size}
use Rattle.std.specs.Prelude.{Ok, Err}

-- the tables of a netlist
pub record BlockTables (N : Netlist) (table offsets : List ℕ) (file : FileNumbers) : Type 0 where
  pub circuit : CircuitTable N table file.inputs file.nets
  pub placed : OffsetTable N offsets
  pub outputs_are : length N.outputs ≡ file.outputs

-- as they are made from those that loading the netlist leaves, for tests of a class
pub record TablesMade (r : FileNumbers) (netlist positions counts : List ℕ) (shape : Shape) (class : ℕ) (table offsets : List ℕ) : Type 0 where
  pub numbers_are : r ≡ record { inputs = shape.inputs; nets = shape.nets; outputs = shape.outputs; class = class }
  pub tables : (N : Netlist) → CircuitTables N netlist positions counts shape → BlockTables N table offsets r

-- those of some netlist, a store that passes its rules, and room for the lists of a block
pub record BlocksReady (table offsets : List ℕ) (file : FileNumbers) (risingLists fallingLists ws work : List ℕ) : Type 0 where
  pub netlist : Netlist
  pub tables : BlockTables netlist table offsets file
  pub memory : MemoryReady netlist ws work
  pub up_room_of : lists_size ≤ length risingLists
  pub down_room : lists_size ≤ length fallingLists

-- after a block that is taken, what is left of the part, from the store so far, gives the whole
pub record BlockOnward (N : Netlist) (c : Class) (part ws ws' work' : List ℕ) (taken : ℕ) : Type 0 where
  pub some : record_length N ≤ length part → 1 ≤ taken
  pub rest : test_all N c (file_records N (drop (record_length N * taken) part)) ws' ≡ test_all N c (file_records N part) ws
  pub counted : taken + taken_of N c (file_records N (drop (record_length N * taken) part)) ws' ≡ taken_of N c (file_records N part) ws
  pub memory : MemoryReady N ws' work'

-- one that is refused ends the file's records
pub record BlockRefused (N : Netlist) (c : Class) (part ws : List ℕ) (taken : ℕ) (w : Refusal) : Type 0 where
  pub all : test_all N c (file_records N part) ws ≡ refused (refusal_number_of w)
  pub counted : taken ≡ taken_of N c (file_records N part) ws

-- the records of a block, with which a part of the file begins
pub record BlockTrue (r : TakenRecords) (N : Netlist) (c : Class) (part ws ws' work' : List ℕ) : Type 0 where
  pub within : record_length N * r.taken ≤ length part
  pub onward : r.answer ≡ Ok tt → BlockOnward N c part ws ws' work' r.taken
  pub refuses : (w : Refusal) → r.answer ≡ Err w → BlockRefused N c part ws r.taken w

-- what holds of the lent memory
pub record RoomKept (risingLists risingLists' fallingLists fallingLists' work work' : List ℕ) : Type 0 where
  pub same_rising : length risingLists' ≡ length risingLists
  pub same_falling : length fallingLists' ≡ length fallingLists
  pub same_length_of : length work' ≡ length work
  pub past_work : drop work_words_count work' ≡ drop work_words_count work

-- one block: its answer, and the lent memory
pub record BlockDone (r : TakenRecords) (table offsets : List ℕ) (file : FileNumbers) (part risingLists risingLists' fallingLists fallingLists' ws ws' work work' : List ℕ) : Type 0 where
  pub few : r.taken ≤ 64
  pub store_length : length ws' ≡ length ws
  pub kept : RoomKept risingLists risingLists' fallingLists fallingLists' work work'
  pub of_circuit : (N : Netlist) → BlockTables N table offsets file → MemoryReady N ws work → BlockTrue r N (class_of file.class) part ws ws' work'
