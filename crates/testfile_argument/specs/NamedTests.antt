-- The test file that an argument names: its report, and the store that it leaves. No contract says which bytes the system gives for a name: there is a
-- test file, and what is told is true of it. Working memory is the program's own and long enough, so 2 does not come.
use Rattle.std.specs.Prelude.{◌≡◌, Bool, true, false, ◌&&◌, List, [], ◌∷◌, ℕ, ◌≤◌, length}
use Rattle.model.specs.Base.{Answer, refused, value, ◌into◌, ◌then◌, checks, after}
use Rattle.model.specs.Netlist.{Netlist}
use Rattle.model.specs.Read.{read_netlist, class_of, class_rule}
use Rattle.model.specs.Calls.{work_words_count, store_rule}
use Rattle.model.specs.Report.{writer_call}
use Rattle.audit_block.specs.RecordsTaken.{left_store}
use Rattle.testfile_walk.specs.Walked.{file_taken}
use Rattle.testfile_judged.specs.declared.Reported.{Reported}
use Rattle.testfile_judged.specs.TrueReport.{length_in, with_report}
use Rattle.testfile_judged.specs.Streams.{StreamReported}
use Rattle.testfile_argument.specs.declared.ToldReport.{ToldReport}
use Rattle.testfile_argument.specs.declared.ToldStore.{ToldStore}

-- The report of a file by its name: with some space and working memory that is long enough, what is promised of a file from a descriptor
pub record FileReported (r : Reported) (netlist : List ℕ) (class : ℕ) (truth truth' ws ws' : List ℕ) : Type 0 where
  pub space : List ℕ
  pub work : List ℕ
  pub work' : List ℕ
  pub enough : work_words_count ≤ length work
  pub is_report : StreamReported r netlist class truth truth' space ws ws' work work'

-- The places before Test: the store's length, the netlist, the class
abbrev pub before_tests : List ℕ → ℕ → List ℕ → Answer Netlist
before_tests netlist class ws = checks (store_rule ws ∷ []) then read_netlist netlist into λ N. checks (class_rule class ∷ []) then value N

-- The store that a test file leaves in a class: these, 33, its records
unfoldable pub tests_call : List ℕ → ℕ → List ℕ → List ℕ → Answer (List ℕ)
tests_call netlist class test_file ws = before_tests netlist class ws into λ N. file_taken N (class_of class) test_file

-- the store afterwards: all zeros where the file is refused; with 1 it is as found
unfoldable pub tests_store : List ℕ → ℕ → List ℕ → List ℕ → List ℕ
tests_store netlist class test_file ws = after (checks (store_rule ws ∷ [])) ws (λ u. left_store (tests_call netlist class test_file ws))

-- The report of a test file: the same, then the writer
unfoldable pub tests_report : List ℕ → ℕ → List ℕ → List ℕ → List ℕ → Answer (List ℕ)
tests_report netlist class test_file ws buffer =
    before_tests netlist class ws
    into λ N. file_taken N (class_of class) test_file
    into λ left. writer_call netlist left buffer

-- the length that is told of a file's report: that of a file that was read whole, 0 where it is refused; 0 where it was not read whole
abbrev pub length_told : Bool → Answer (List ℕ) → ℕ
length_told false report = 0
length_told true report = length_in (report into λ written. value (length written))

-- whether a test file is taken: no place before its tests refuses, 33 does not come, and no record is refused
abbrev pub is_taken : Answer (List ℕ) → Bool
is_taken (refused n) = false
is_taken (value left) = true

-- The report of the tests: there is a test file of so many bytes, and the length is exactly that of its report, whose bytes stand at the start of the buffer
pub record TestsReported (r : ToldReport) (netlist : List ℕ) (class : ℕ) (truth truth' ws ws' : List ℕ) : Type 0 where
  pub test_file : List ℕ
  pub bytes_are : r.bytes ≡ length test_file
  pub length_is : r.length ≡ length_told r.whole (tests_report netlist class test_file ws truth)
  pub truth_is : truth' ≡ with_report (tests_report netlist class test_file ws truth) truth
  pub store : ws' ≡ tests_store netlist class test_file ws

-- The store of the tests: there is such a file, it is told as taken exactly where it was read whole and is taken, and this is the store that it leaves
pub record TestsStored (r : ToldStore) (netlist : List ℕ) (class : ℕ) (ws ws' : List ℕ) : Type 0 where
  pub test_file : List ℕ
  pub bytes_are : r.bytes ≡ length test_file
  pub taken_is : r.taken ≡ (r.whole && is_taken (tests_call netlist class test_file ws))
  pub store : ws' ≡ tests_store netlist class test_file ws
