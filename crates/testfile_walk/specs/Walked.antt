-- A test file that was walked over in pieces. No contract says which bytes a read puts into memory, so the file is the bytes that the reads left
-- in the space, one piece after the other: there is such a file.
use Rattle.std.specs.Prelude.{◌≡◌, List, [], ◌∷◌, ℕ, ◌*◌, length, drop}
use Rattle.model.specs.Base.{Answer, value, ◌then◌, checks}
use Rattle.model.specs.Netlist.{Netlist}
use Rattle.model.specs.Detect.{Class}
use Rattle.model.specs.Read.{read_netlist, class_of}
use Rattle.model.specs.Store.{empty_store, max_tests}
use Rattle.model.specs.Calls.{work_words_count}
use Rattle.model.specs.Report.{file_records, whole_records, test_all}
use Rattle.netlist.specs.declared.inner.Loaded.{Loaded}
use Rattle.audit_block.specs.RecordsTaken.{file_of, left_store, taken_of}
use Rattle.audit_records.specs.FileRecords.{Ready}
use Rattle.testfile_reading.specs.Space.{InSpace}
use Rattle.testfile_walk.specs.declared.inner.Walk.{Walk}

-- a file of more bytes has too many records: the longest record has 18
abbrev pub most_bytes : ℕ
most_bytes = 18 * max_tests

-- the test calls with the records of a file, all in one class, from an empty store
unfoldable pub records_taken : Netlist → Class → List ℕ → Answer (List ℕ)
records_taken N c test_file = test_all N c (file_records N test_file) empty_store

-- 33 by the length of the file, then its records
unfoldable pub file_taken : Netlist → Class → List ℕ → Answer (List ℕ)
file_taken N c test_file = checks ((33, whole_records N test_file) ∷ []) then test_all N c (file_records N test_file) empty_store

-- The walk over a file: its length, what it answers by `call`, the store that it leaves, and the number of records taken before the first refused
pub record Walked (call : Netlist → Class → List ℕ → Answer (List ℕ)) (r : Walk) (netlist : List ℕ) (loaded : Loaded) (class : ℕ) (space ws work work' : List ℕ)
    : Type 0 where
  pub test_file : List ℕ
  pub bytes_are : r.bytes ≡ length test_file
  pub in_space : InSpace netlist test_file space
  pub answer : (N : Netlist) → read_netlist netlist ≡ value N → file_of r.records.answer ws ≡ call N (class_of class) test_file
  pub store : (N : Netlist) → read_netlist netlist ≡ value N → ws ≡ left_store (call N (class_of class) test_file)
  pub taken : (N : Netlist) → read_netlist netlist ≡ value N → r.records.taken ≡ taken_of N (class_of class) (file_records N test_file) empty_store
  pub ready : Ready netlist loaded ws work'
  pub same_length_of : length work' ≡ length work
  pub past_work : drop work_words_count work' ≡ drop work_words_count work
