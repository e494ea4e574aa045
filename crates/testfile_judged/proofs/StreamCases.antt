-- The public calls: a refusal at the beginning, or the end of a file that was walked over.
use Rattle.model.proofs.Prelude.{ℕ, ◌/◌, ◌≡◌, ◌∙◌, ap, refl, sym, subst, ◌↔◌, true, Bool, false, List, [], ◌∷◌, length, rules}
use Rattle.model.specs.Base.{Answer, refused, value, ◌into◌, ◌then◌, checks, passes, after}
use Rattle.model.specs.Netlist.{Netlist, path_total}
use Rattle.model.specs.Detect.{Class}
use Rattle.model.specs.Read.{within, read_netlist, class_of, record_length}
use Rattle.model.specs.Refusals.{refusal_number_of}
use Rattle.model.specs.Store.{empty_store, runs_by_edge}
use Rattle.model.specs.Calls.{before_test}
use Rattle.model.specs.Report.{file_records, whole_records, test_all, writer_call, report_record, report_rules}
use Rattle.model.specs.Demand3.{Acceptable}
use Rattle.model.specs.declared.Refusal.{Refusal}
use Rattle.audit_block.specs.RecordsTaken.{file_of, left_store}
use Rattle.model.proofs.AnswerLaws.{not_refused, value_inj}
use Rattle.store_coverage.proofs.TestCallLaws.{refused-by}
use Rattle.audit.proofs.PromisesHold.{calls-true}
use Rattle.netlist.specs.declared.inner.Loaded.{Loaded}
use Rattle.audit_records.specs.FileRecords.{Ready}
use Rattle.audit_piece_steps.specs.declared.inner.Begun.{Begun}
use Rattle.audit_piece_steps.specs.Steps.{lent_rules, begin_answer, begin_store, BeginTrue, Ended, with_piece, end_of}
use Rattle.audit_judging.specs.FileJudging.{end_by}
use Rattle.audit_pieces.specs.Together.{ReadyTables}
use Rattle.audit_pieces.proofs.TogetherHolds.{told-ready, told-refused, begun-ready, begun-empty, begun-lent, begun-known, begun-before, end-answer, end-store, end-work}
use Rattle.audit_pieces.proofs.PiecesHold.{pieces-true}
use Rattle.testfile_walk.specs.declared.inner.Walk.{Walk}
use Rattle.testfile_judged.specs.declared.writing.Written.{Written}
use Rattle.testfile_judged.specs.declared.Judged.{Judged}
use Rattle.testfile_walk.specs.Walked.{file_taken, Walked}
use Rattle.testfile_judged.specs.TrueReport.{Wrote, length_in, with_report, writer_after}
use Rattle.testfile_judged.specs.Streams.{file_call, file_store, true_report, taken_by, StreamRead, StreamAudited, StreamReported}
use Rattle.std.specs.Prelude.{Result, Ok, Err}
use Rattle.model.specs.Returned.{answer_of}

-- 33 is checked once or twice
twice : (b : Bool) (x : Answer (List ℕ)) (f : List ℕ → Answer (List ℕ))
    → (checks ((33, b) ∷ []) then (checks ((33, b) ∷ []) then x) into f) ≡ (checks ((33, b) ∷ []) then x into f)
twice true x f = refl
twice false x f = refl

end-again : (N : Netlist) (c : Class) (test_file report : List ℕ)
    → end_of N (length test_file) report (file_taken N c test_file) ≡ end_of N (length test_file) report (with_piece N c test_file (value empty_store))
unfolding end_by file_taken with_piece
end-again N c test_file report =
    twice (whole_records N test_file) (test_all N c (file_records N test_file) empty_store)
    (λ left. checks (report_rules report (report_record (length test_file / record_length N) (path_total N) (runs_by_edge left))) then value left)

-- A refusal at the beginning: there is no file, and nothing is read
module _ (netlist : List ℕ) (class : ℕ) (ws ws₀ work : List ℕ) (b : Begun) (t : BeginTrue b netlist class ws ws₀ work)
    (w : Refusal) (q : b.answer ≡ Err w) (truth space : List ℕ) where
  before-refused : before_test netlist class ws work ≡ refused (refusal_number_of w)
  unfolding begin_answer
  before-refused = refused-by (before_test netlist class ws work) (refusal_number_of w) (told-refused netlist class ws ws₀ work b t w q)

  no-file : file_call netlist class [] ws work ≡ refused (refusal_number_of w)
  unfolding file_call
  no-file = rw before-refused refl

  no-report : true_report netlist class [] ws work truth ≡ refused (refusal_number_of w)
  unfolding true_report
  no-report = rw before-refused refl

  abbrev nothing_read : StreamRead 0 0 0 netlist class truth truth space ws work
  nothing_read = record {
    test_file = [];
    bytes_are = refl;
    in_space = λ N e k. refl;
    taken_are = sym (ap (λ (x : Answer Netlist). taken_by x (class_of class) []) before-refused);
    length_is = sym (ap (λ (x : Answer (List ℕ)). length_in (x into λ written. value (length written))) no-report);
    truth_is = sym (ap (λ (x : Answer (List ℕ)). with_report x truth) no-report);
  }

  pub audit_refused : (report : List ℕ)
      → StreamAudited (record { answer = Err w; length = 0; bytes = 0; taken = 0; whole = true }) netlist report class truth truth space ws ws₀ work work
  audit_refused report = record { read = nothing_read; is_audit = pieces-true.refused_at_once netlist class [] report ws ws₀ work b t w q }

  pub report-refused :
      StreamReported (record { answer = Err w; length = 0; bytes = 0; taken = 0; whole = true }) netlist class truth truth space ws ws₀ work work
  unfolding file_store begin_store left_store
  report-refused = record {
    read = nothing_read;
    answer = sym (ap (λ (x : Answer (List ℕ)). x into λ written. value (length written)) no-report);
    store = t.store ∙ sym (ap (λ (x : Answer (List ℕ)). after (lent_rules ws work) ws (λ u. left_store x)) no-file);
    work_is = record { same_length_of = refl; past_work = refl; not_reached = λ n e. refl };
  }

-- A beginning that passed, then a file that was walked over
module _ (netlist : List ℕ) (class : ℕ) (ws ws₀ work : List ℕ) (b : Begun) (t : BeginTrue b netlist class ws ws₀ work)
    (q : b.answer ≡ Ok tt) where
  told : value tt ≡ begin_answer netlist class ws work
  told = told-ready netlist class ws ws₀ work b t q

  with_tables : ReadyTables b netlist ws₀ work
  with_tables = begun-ready netlist class ws ws₀ work b t q

  -- it has its tables
  never : (w : Refusal) → b.tables ≡ Err w → ⊥
  never w z = not_refused (ap (λ (x : Result Loaded Refusal). answer_of x) (sym z ∙ with_tables.tables_are))

  pub audit_never : (w : Refusal) → b.tables ≡ Err w → (truth space report : List ℕ)
      → StreamAudited (record { answer = Err w; length = 0; bytes = 0; taken = 0; whole = true }) netlist report class truth truth space ws ws₀ work work
  audit_never w z truth space report = absurd (never w z)

  pub report-never : (w : Refusal) → b.tables ≡ Err w → (truth space : List ℕ)
      → StreamReported (record { answer = Err w; length = 0; bytes = 0; taken = 0; whole = true }) netlist class truth truth space ws ws₀ work work
  report-never w z truth space = absurd (never w z)

-- A beginning that passed, and its tables
module _ (netlist : List ℕ) (class : ℕ) (ws ws₀ work : List ℕ) (b : Begun) (t : BeginTrue b netlist class ws ws₀ work)
    (q : b.answer ≡ Ok tt) (loaded : Loaded) (z : b.tables ≡ Ok loaded) where
  told-passed : value tt ≡ begin_answer netlist class ws work
  told-passed = told-ready netlist class ws ws₀ work b t q

  same : (begun-ready netlist class ws ws₀ work b t q).loaded ≡ loaded
  same = value_inj (ap (λ (x : Result Loaded Refusal). answer_of x) (sym (begun-ready netlist class ws ws₀ work b t q).tables_are ∙ z))

  pub stream-ready : Ready netlist loaded ws₀ work
  stream-ready = subst (λ (d : Loaded). Ready netlist d ws₀ work) same (begun-ready netlist class ws ws₀ work b t q).ready

  pub stream-empty : ws₀ ≡ empty_store
  stream-empty = begun-empty netlist class ws ws₀ work told-passed t.store

  module _ (walk : Walk) (space ws₁ work₁ : List ℕ) (v : Walked file_taken walk netlist loaded class space ws₁ work work₁)
      (r : Written) (truth truth' : List ℕ) (y : Wrote r (writer_after netlist (file_of walk.records.answer ws₁) truth) truth truth') where
    abbrev N : Netlist
    N = v.ready.circuit

    abbrev f : List ℕ
    f = v.test_file

    legal : read_netlist netlist ≡ value N
    legal = v.ready.tables.legal

    lent : lent_rules ws work ≡ value tt
    lent = begun-lent netlist class ws ws₀ work told-passed

    known : within 1 2 class ≡ true
    known = begun-known netlist class ws ws₀ work told-passed

    before : before_test netlist class ws work ≡ value N
    before = begun-before netlist class ws ws₀ work told-passed N legal

    report-is : writer_after netlist (file_of walk.records.answer ws₁) truth ≡ true_report netlist class f ws work truth
    unfolding true_report writer_after
    report-is =
        ap (λ (x : Answer (List ℕ)). writer_after netlist x truth) (v.answer N legal)
        ∙ sym (ap (λ (x : Answer Netlist). x into λ M. file_taken M (class_of class) f into λ left. writer_call netlist left truth) before)

    wrote : Wrote r (true_report netlist class f ws work truth) truth truth'
    wrote = subst (λ (x : Answer (List ℕ)). Wrote r x truth truth') report-is y

    abbrev file-read : StreamRead walk.bytes walk.records.taken r.length netlist class truth truth' space ws work
    file-read = record {
      test_file = f;
      bytes_are = v.bytes_are;
      in_space = v.in_space;
      taken_are = v.taken N legal ∙ sym (ap (λ (x : Answer Netlist). taken_by x (class_of class) f) before);
      length_is = wrote.size;
      truth_is = wrote.bytes;
    }

    pub audit_done : (report : List ℕ) (a : Result (Unit {0}) Refusal) (ws₂ : List ℕ) → Ended a netlist walk.records.answer walk.bytes report ws₁ ws₂
        → StreamAudited (record { answer = a; length = r.length; bytes = walk.bytes; taken = walk.records.taken; whole = walk.whole })
        netlist report class truth truth' space ws ws₂ work work₁
    audit_done report a ws₂ d =
        let s : end_of N walk.bytes report (file_of walk.records.answer ws₁) ≡ end_of N (length f) report (with_piece N (class_of class) f (value empty_store)) =
        ap (λ (k : ℕ). end_of N k report (file_of walk.records.answer ws₁)) v.bytes_are
        ∙ ap (λ (x : Answer (List ℕ)). end_of N (length f) report x) (v.answer N legal)
        ∙ end-again N (class_of class) f report in
        record {
          read = file-read;
          is_audit = record {
            answer = d.answer N legal ∙ ap (λ (x : Answer (List ℕ)). passes x) s ∙ end-answer netlist class f report ws work N lent before;
            store = d.store N legal ∙ ap left_store s ∙ end-store netlist class f report ws work N lent before;
            work = end-work netlist class f report ws work N lent before work₁ v.same_length_of v.past_work;
          };
        }

    pub report-done : StreamReported (record { answer = r.answer; length = r.length; bytes = walk.bytes; taken = walk.records.taken; whole = walk.whole })
        netlist class truth truth' space ws ws₁ work work₁
    unfolding file_store file_call
    report-done = record {
      read = file-read;
      answer = wrote.answer;
      store = v.store N legal ∙ rw (lent, legal) (rw known refl);
      work_is = end-work netlist class f [] ws work N lent before work₁ v.same_length_of v.past_work;
    }

-- Accepted: there is a test file whose true report this is
pub stream_accepts : (r : Judged) (netlist report : List ℕ) (class : ℕ) (truth truth' space ws ws' work work' : List ℕ)
    (s : StreamAudited r netlist report class truth truth' space ws ws' work work') → (r.answer ≡ Ok tt) ↔ Acceptable netlist class s.read.test_file report ws work
stream_accepts r netlist report class truth truth' space ws ws' work work' s =
    calls-true.audits r.answer netlist class s.read.test_file report ws ws' work work' s.is_audit

pub ruleset stream-cases = (stream-ready, stream-empty, audit_refused, audit_never, audit_done, report-refused, report-never, report-done, rules)
