-- All records of a test file: what is promised on the tables of a netlist for blocks, and on the netlist itself.
use Rattle.std.specs.Prelude.{◌≡◌, List, ℕ, ◌≤◌, length, drop}
use Rattle.model.specs.Netlist.{Netlist, path_total}
use Rattle.model.specs.Read.{class_of}
use Rattle.model.specs.Calls.{work_words_count}
use Rattle.netlist.specs.declared.inner.Loaded.{Loaded}
use Rattle.netlist.specs.declared.inner.Shape.{Shape}
use Rattle.netlist.specs.Tables.{CircuitTables}
use Rattle.store_coverage.specs.Stage.{MemoryReady}
use Rattle.audit_block.specs.RecordsTaken.{FileTrue}
use Rattle.audit_block.specs.FileBlocks.{BlockTables}
use Rattle.audit_block.specs.declared.inner.TakenRecords.{TakenRecords}
use Rattle.audit_block.specs.declared.inner.FileNumbers.{FileNumbers}

-- block after block
pub record BlocksTaken (r : TakenRecords) (table offsets : List ℕ) (file : FileNumbers) (test_file ws ws' work work' : List ℕ) : Type 0 where
  pub of_circuit : (N : Netlist) → BlockTables N table offsets file → MemoryReady N ws work → FileTrue r N (class_of file.class) test_file ws ws'
  pub few : r.taken ≤ length test_file
  pub same_length_of : length work' ≡ length work
  pub past_work : drop work_words_count work' ≡ drop work_words_count work

-- the same of the netlist whose tables are handed over, and what holds of the working memory
pub record FileTaken (r : TakenRecords) (netlist positions net_counts : List ℕ) (shape : Shape) (class : ℕ) (test_file ws ws' work work' : List ℕ) : Type 0 where
  pub of_circuit : (N : Netlist) → CircuitTables N netlist positions net_counts shape → FileTrue r N (class_of class) test_file ws ws'
  pub few : r.taken ≤ length test_file
  pub same_length_of : length work' ≡ length work
  pub past_work : drop work_words_count work' ≡ drop work_words_count work

-- what is handed over before a file's records: a legal netlist as it was loaded, a store that no rule refuses, and working memory long enough
pub record Ready (netlist : List ℕ) (loaded : Loaded) (ws work : List ℕ) : Type 0 where
  pub circuit : Netlist
  pub tables : CircuitTables circuit netlist loaded.positions loaded.counts loaded.shape
  pub total_is : loaded.total ≡ path_total circuit
  pub memory : MemoryReady circuit ws work
