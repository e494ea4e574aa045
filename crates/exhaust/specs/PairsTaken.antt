-- The test stage with all pairs, those of one V1 at a time: what is answered on the tables of a netlist, and the lent memory afterwards.
use Rattle.std.specs.Prelude.{◌≡◌, List, ℕ, ◌^◌, length, drop}
use Rattle.model.specs.Netlist.{Netlist}
use Rattle.model.specs.Detect.{Class}
use Rattle.model.specs.Read.{class_of}
use Rattle.model.specs.Store.{store_words_count}
use Rattle.model.specs.Calls.{work_words_count}
use Rattle.model.specs.Report.{test_all}
use Rattle.store_coverage.specs.Stage.{MemoryReady}
use Rattle.audit_block.specs.RecordsTaken.{file_of, left_store}
use Rattle.audit_block.specs.FileBlocks.{BlockTables, RoomKept}
use Rattle.audit_block.specs.declared.inner.FileNumbers.{FileNumbers}
use Rattle.exhaust_pairs.specs.AllPairs.{pairs_with, all_pairs}
use Rattle.std.specs.Prelude.{Result}
use Rattle.model.specs.declared.Refusal.{Refusal}

-- the pairs of one V1
pub record WithTaken (r : Result (Unit {0}) Refusal) (table offsets : List ℕ) (numbers : FileNumbers) (first : ℕ)
    (risingLists risingLists' fallingLists fallingLists' ws ws' work work' : List ℕ) : Type 0 where
  pub store_length : length ws' ≡ store_words_count
  pub kept : RoomKept risingLists risingLists' fallingLists fallingLists' work work'
  pub of_circuit : (N : Netlist) → BlockTables N table offsets numbers → MemoryReady N ws work
      → file_of r ws' ≡ test_all N (class_of numbers.class) (pairs_with first 0 (2 ^ N.inputs)) ws

-- all pairs: their answer, and the store afterwards, empty after a refusal
pub record PairsTrue (r : Result (Unit {0}) Refusal) (N : Netlist) (c : Class) (ws ws' : List ℕ) : Type 0 where
  pub answer : file_of r ws' ≡ test_all N c (all_pairs N.inputs) ws
  pub store : ws' ≡ left_store (test_all N c (all_pairs N.inputs) ws)

pub record AllTaken (r : Result (Unit {0}) Refusal) (table offsets : List ℕ) (numbers : FileNumbers) (ws ws' work work' : List ℕ) : Type 0 where
  pub of_circuit : (N : Netlist) → BlockTables N table offsets numbers → MemoryReady N ws work → PairsTrue r N (class_of numbers.class) ws ws'
  pub same_length_of : length work' ≡ length work
  pub past_work : drop work_words_count work' ≡ drop work_words_count work
