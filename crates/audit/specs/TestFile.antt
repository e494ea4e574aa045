-- The audit once the netlist is read: the length of the test file, its records in file order, then the report.
use Rattle.std.specs.Prelude.{◌≡◌, List, [], ◌∷◌, ℕ, length, drop}
use Rattle.model.specs.Base.{Answer, value, ◌into◌, ◌then◌, checks, passes}
use Rattle.model.specs.Netlist.{Netlist, path_total}
use Rattle.model.specs.Detect.{Class}
use Rattle.model.specs.Read.{read_netlist, class_of}
use Rattle.model.specs.Store.{empty_store}
use Rattle.model.specs.Calls.{work_words_count}
use Rattle.model.specs.Report.{file_records, whole_records, test_all}
use Rattle.audit_block.specs.RecordsTaken.{left_store}
use Rattle.audit_judging.specs.FileJudging.{reported}
use Rattle.std.specs.Prelude.{Result}
use Rattle.model.specs.declared.Refusal.{Refusal}
use Rattle.model.specs.Returned.{answer_of}

-- The audit on a legal netlist, from 33 on
unfoldable pub audit_file : Netlist → Class → List ℕ → List ℕ → Answer (List ℕ)
audit_file N c test_file report =
    checks ((33, whole_records N test_file) ∷ [])
    then test_all N c (file_records N test_file) empty_store
    into λ left. reported (length (file_records N test_file)) (path_total N) report left

-- its answer, the store afterwards, and what holds of the working memory
pub record FileAudited (r : Result (Unit {0}) Refusal) (netlist : List ℕ) (class : ℕ) (test_file report ws' work work' : List ℕ) : Type 0 where
  pub answer : (N : Netlist) → read_netlist netlist ≡ value N → answer_of r ≡ passes (audit_file N (class_of class) test_file report)
  pub store : (N : Netlist) → read_netlist netlist ≡ value N → ws' ≡ left_store (audit_file N (class_of class) test_file report)
  pub same_length_of : length work' ≡ length work
  pub past_work : drop work_words_count work' ≡ drop work_words_count work
