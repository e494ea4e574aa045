-- What the calls promise that read their test file from a descriptor.
use Rattle.std.specs.Prelude.{◌≡◌, List, ℕ, length}
use Rattle.model.specs.Base.{Answer, refused, value, ◌into◌, after}
use Rattle.model.specs.Netlist.{Netlist}
use Rattle.model.specs.Detect.{Class}
use Rattle.model.specs.Read.{class_of}
use Rattle.model.specs.Store.{empty_store}
use Rattle.model.specs.Calls.{before_test, WorkAfter}
use Rattle.model.specs.Report.{file_records, writer_call}
use Rattle.audit.specs.Answers.{AuditTrue}
use Rattle.audit_block.specs.RecordsTaken.{left_store, taken_of}
use Rattle.audit_piece_steps.specs.Steps.{lent_rules}
use Rattle.testfile_reading.specs.Space.{InSpace}
use Rattle.testfile_walk.specs.Walked.{file_taken}
use Rattle.testfile_judged.specs.declared.Judged.{Judged}
use Rattle.testfile_judged.specs.declared.Reported.{Reported}
use Rattle.testfile_judged.specs.TrueReport.{length_in, with_report}
use Rattle.model.specs.Returned.{answer_of}

-- The store that a test file leaves in a class: lent memory, netlist, class, 33, its records
unfoldable pub file_call : List ℕ → ℕ → List ℕ → List ℕ → List ℕ → Answer (List ℕ)
file_call netlist class test_file ws work = before_test netlist class ws work into λ N. file_taken N (class_of class) test_file

-- the store afterwards: all zeros where the file is refused; with 1 or 2 it is as found
unfoldable pub file_store : List ℕ → ℕ → List ℕ → List ℕ → List ℕ → List ℕ
file_store netlist class test_file ws work = after (lent_rules ws work) ws (λ u. left_store (file_call netlist class test_file ws work))

-- The true report of a test file: the same, then the writer, which finds the number of its records in the store
unfoldable pub true_report : List ℕ → ℕ → List ℕ → List ℕ → List ℕ → List ℕ → Answer (List ℕ)
true_report netlist class test_file ws work buffer =
    before_test netlist class ws work
    into λ N. file_taken N (class_of class) test_file
    into λ left. writer_call netlist left buffer

abbrev pub true_length : List ℕ → ℕ → List ℕ → List ℕ → List ℕ → List ℕ → Answer ℕ
true_length netlist class test_file ws work buffer = true_report netlist class test_file ws work buffer into λ written. value (length written)

-- the number of records taken before the first refused one, all if none is; none where no record is tried
abbrev pub taken_by : Answer Netlist → Class → List ℕ → ℕ
taken_by (refused n) c test_file = 0
taken_by (value N) c test_file = taken_of N c (file_records N test_file) empty_store

-- What both calls promise: there is a test file, of as many bytes as the call says it read; so many of its records are taken; and the bytes at
-- the start of the buffer are its true report, of the length that the call says, 0 where a refusal comes first
pub record StreamRead (bytes taken written : ℕ) (netlist : List ℕ) (class : ℕ) (truth truth' space ws work : List ℕ) : Type 0 where
  pub test_file : List ℕ
  pub bytes_are : bytes ≡ length test_file
  pub in_space : InSpace netlist test_file space
  pub taken_are : taken ≡ taken_by (before_test netlist class ws work) (class_of class) test_file
  pub length_is : written ≡ length_in (true_length netlist class test_file ws work truth)
  pub truth_is : truth' ≡ with_report (true_report netlist class test_file ws work truth) truth

-- The audit: answer, store and working memory are those of the audit of that file
pub record StreamAudited (r : Judged) (netlist report : List ℕ) (class : ℕ) (truth truth' space ws ws' work work' : List ℕ) : Type 0 where
  pub read : StreamRead r.bytes r.taken r.length netlist class truth truth' space ws work
  pub is_audit : AuditTrue r.answer netlist class read.test_file report ws ws' work work'

-- The report: the answer is its length, or the first refusal; the store is as the file leaves it
pub record StreamReported (r : Reported) (netlist : List ℕ) (class : ℕ) (truth truth' space ws ws' work work' : List ℕ) : Type 0 where
  pub read : StreamRead r.bytes r.taken r.length netlist class truth truth' space ws work
  pub answer : answer_of r.answer ≡ true_length netlist class read.test_file ws work truth
  pub store : ws' ≡ file_store netlist class read.test_file ws work
  pub work_is : WorkAfter netlist class ws work work'
