-- Begin, the pieces in order and end are the audit, of the steps and of the public calls.
use Rattle.model.proofs.Prelude.{ℕ, ◌≡◌, ◌∙◌, ap, refl, sym, ◌↔◌, List}
use Rattle.model.specs.Base.{value}
use Rattle.model.specs.Read.{class_of}
use Rattle.model.specs.Store.{empty_store}
use Rattle.model.specs.Refusals.{refusal_number_of}
use Rattle.model.specs.Report.{file_records}
use Rattle.model.specs.Demand3.{Acceptable}
use Rattle.model.specs.declared.Refusal.{Refusal}
use Rattle.model.proofs.AnswerLaws.{not_refused}
use Rattle.model.proofs.ReportsHold.{demand_3}
use Rattle.audit.specs.Answers.{AuditTrue}
use Rattle.audit_block.specs.RecordsTaken.{taken_of}
use Rattle.audit.proofs.PromisesHold.{calls-true}
use Rattle.audit_piece_steps.specs.declared.inner.Begun.{Begun}
use Rattle.audit_piece_steps.specs.Steps.{BeginTrue}
use Rattle.audit_pieces.specs.Calls.{BegunTrue}
use Rattle.audit_judging.specs.FileJudging.{ended_of}
use Rattle.audit_piece_steps.specs.JoinedPieces.{joined}
use Rattle.audit_pieces.specs.Together.{MadePiece, bytes_of, no_records, last_answer, StepsMade, WholeAudit, PiecesTrue}
use Rattle.audit_pieces.proofs.TogetherHolds.{calls-joined, pieces-made, told-ready, told-refused, begun-ready, begun-empty, begun-refused, untouched}
use Rattle.audit_pieces.proofs.TakenLaws.{taken_withs, taken-whole, last_taken}
use Rattle.audit_pieces.proofs.CallsTogether.{calls-made, never-for_store, call-places}
use Rattle.std.specs.Prelude.{Result, Ok, Err}

-- a beginning that was refused
refused-at-once : (netlist : List ℕ) (class : ℕ) (test_file report ws ws₀ work : List ℕ) (b : Begun) → BeginTrue b netlist class ws ws₀ work
    → (w : Refusal) → b.answer ≡ Err w → AuditTrue (Err w) netlist class test_file report ws ws₀ work work
refused-at-once netlist class test_file report ws ws₀ work b t w q =
    let a = told-refused netlist class ws ws₀ work b t w q in
    let x = begun-refused netlist class test_file report ws ws₀ work (refusal_number_of w) a t.store in
    record { answer = x.0; store = x.1; work = untouched netlist class test_file report ws ws₀ work (refusal_number_of w) a t.store }

call-refused-at-once : (netlist : List ℕ) (class : ℕ) (test_file report ws ws₀ work : List ℕ) (w : Refusal)
    → BegunTrue (Err w) netlist class ws ws₀ work → WholeAudit (Err (refusal_number_of w)) netlist class test_file report ws ws₀ work
call-refused-at-once netlist class test_file report ws ws₀ work w t =
    let x = begun-refused netlist class test_file report ws ws₀ work (refusal_number_of w) t.answer t.store in
    record { answer = x.0; store = x.1 }

-- the number of records taken
step-places : (netlist : List ℕ) (class : ℕ) (ms : List MadePiece) (report ws ws' work : List ℕ) (r : Result (Unit {0}) Refusal)
    → (s : StepsMade netlist class ms report ws ws' work r)
    → (last_answer no_records ms).taken ≡ taken_of s.circuit (class_of class) (file_records s.circuit (joined (bytes_of ms))) empty_store
step-places netlist class ms report ws ws' work r s =
    let ws₀ : List ℕ = s.emptied in
    last_taken netlist s.loaded class s.circuit s.legal no_records ws₀ ms s.takes
    ∙ ap (λ (x : List ℕ). taken_withs s.circuit (class_of class) (bytes_of ms) (value x) 0)
    (begun-empty netlist class ws ws₀ work (told-ready netlist class ws ws₀ work s.begun s.begins s.is_ready) s.begins.store)
    ∙ taken-whole s.circuit (class_of class) (bytes_of ms) s.whole empty_store

-- an audit whose answer is a number accepts exactly the true report
accepted_is : (r : Result (Unit {0}) ℕ) → ended_of r ≡ value tt → r ≡ Ok tt
accepted_is (Ok tt) e = refl
accepted_is (Err n) e = absurd (not_refused e)

whole-accepts : (netlist : List ℕ) (class : ℕ) (test_file report ws ws' work : List ℕ) (r : Result (Unit {0}) ℕ)
    → WholeAudit r netlist class test_file report ws ws' work → (r ≡ Ok tt) ↔ Acceptable netlist class test_file report ws work
whole-accepts netlist class test_file report ws ws' work r a = (
  λ q. (demand_3.audits netlist class test_file report ws work).0 (sym a.answer ∙ ap ended_of q),
  λ q. accepted_is r (a.answer ∙ (demand_3.audits netlist class test_file report ws work).1 q),
)

pub pieces-true : PiecesTrue
pieces-true = record {
  calls = calls-joined;
  made = pieces-made;
  accepts = λ netlist class ms report ws ws' work r s.
      calls-true.audits r netlist class (joined (bytes_of ms)) report ws ws' work _ (pieces-made netlist class ms report ws ws' work r s);
  refused_at_once = refused-at-once;
  ready_then = begun-ready;
  calls_made = λ netlist class ms report ws ws' work r s. calls-made netlist class ms ws work s.pieces report ws' r s.ends;
  calls_accept = λ netlist class ms report ws ws' work r s.
      whole-accepts netlist class _ report ws ws' work r (calls-made netlist class ms ws work s.pieces report ws' r s.ends);
  call_refused_at_once = call-refused-at-once;
  never_for_store = never-for_store;
  places = step-places;
  call_places = call-places;
}
