-- What the audit promises: document 01's number for each case of its answer, and the lent memory afterwards.
use Rattle.std.specs.Prelude.{◌≡◌, List, ℕ}
use Rattle.model.specs.Calls.{WorkAfter}
use Rattle.model.specs.Report.{audit_answer, audit_store}
use Rattle.std.specs.Prelude.{Result}
use Rattle.model.specs.declared.Refusal.{Refusal}
use Rattle.model.specs.Returned.{answer_of}

-- The audit: its answer, the store afterwards, and what holds of the working memory, in which the first 8,192 words are free
pub record AuditTrue (r : Result (Unit {0}) Refusal) (netlist : List ℕ) (class : ℕ) (test_file report ws ws' found left : List ℕ) : Type 0 where
  pub answer : answer_of r ≡ audit_answer netlist class test_file report ws found
  pub store : ws' ≡ audit_store netlist class test_file report ws found
  pub work : WorkAfter netlist class ws found left
