-- The steps together are the audit of the whole file: the state after each piece is that of the test calls with all records so far.
use Rattle.model.proofs.Prelude.{ℕ, ◌/◌, ◌≡◌, ◌∙◌, ap, refl, sym, subst, true, Bool, false, List, [], ◌∷◌, length, drop, leb→le}
use Rattle.model.specs.Base.{Answer, refused, value, ◌into◌, passes}
use Rattle.model.specs.Netlist.{Netlist}
use Rattle.model.specs.Detect.{Class}
use Rattle.model.specs.Read.{within, read_netlist, class_of, record_length}
use Rattle.model.specs.Refusals.{refusal_number_of}
use Rattle.model.specs.Store.{empty_store}
use Rattle.model.specs.Calls.{work_words_count, store_rule, work_rule, before_test, WorkAfter}
use Rattle.model.specs.Report.{audit_call, audit_answer, audit_store}
use Rattle.model.proofs.BoolLaws.{T→true}
use Rattle.model.proofs.AnswerLaws.{Passed, checks→, →checks, then-first, not_refused, value_inj}
use Rattle.model.proofs.BeforeLaws.{Reached, reached→}
use Rattle.model.proofs.RefusalLaws.{audit_found, audit_emptied}
use Rattle.model.proofs.ReportLaws.{length-records}
use Rattle.netlist.specs.declared.inner.Loaded.{Loaded}
use Rattle.netlist.proofs.LoadLaws.{loaded_legal, loaded_refused}
use Rattle.store_coverage.specs.Stage.{MemoryReady}
use Rattle.audit.specs.Answers.{AuditTrue}
use Rattle.audit_block.specs.RecordsTaken.{file_of, left_store}
use Rattle.audit.specs.TestFile.{audit_file}
use Rattle.audit_block.specs.declared.inner.TakenRecords.{TakenRecords}
use Rattle.audit_block.proofs.MemoryLaws.{empty-memory}
use Rattle.audit.proofs.AuditCases.{audit_left}
use Rattle.audit_piece_steps.specs.declared.inner.Begun.{Begun}
use Rattle.audit_piece_steps.specs.Steps.{BeginTrue, lent_rules, begin_answer, begin_store, with_piece, end_of}
use Rattle.audit_judging.specs.FileJudging.{end_by}
use Rattle.audit_piece_steps.specs.JoinedPieces.{joined, WholeButLast, with_pieces}
use Rattle.audit_piece_steps.proofs.JoinedPieceLaws.{pieces-joined}
use Rattle.audit_pieces.specs.Together.{pieces_call, MadePiece, bytes_of, no_records, Promised, last_answer, last_left, ReadyTables, StepsMade}
use Rattle.std.specs.Prelude.{Result, Ok, Err}
use Rattle.model.specs.declared.Refusal.{Refusal}
use Rattle.model.specs.Returned.{answer_of}

-- The end of a file that was taken whole is the audit from 33 on
pub end-file : (N : Netlist) (c : Class) (test_file report : List ℕ)
    → end_of N (length test_file) report (with_piece N c test_file (value empty_store)) ≡ audit_file N c test_file report
unfolding end_by with_piece audit_file
end-file N c test_file report =
    rw (length-records (record_length N) (length test_file / record_length N) test_file) refl

-- The definitions
module _ (netlist : List ℕ) (N : Netlist) (e : read_netlist netlist ≡ value N) (class : ℕ) (pieces : List (List ℕ)) (h : WholeButLast N pieces)
    (report ws work : List ℕ) where
  abbrev c : Class
  c = class_of class

  abbrev joined_end : Netlist → Answer (List ℕ)
  joined_end M = end_of M (length (joined pieces)) report (with_pieces M c pieces (value empty_store))

  same_end : joined_end N ≡ audit_file N c (joined pieces) report
  same_end =
      ap (λ (x : Answer (List ℕ)). end_of N (length (joined pieces)) report x) (pieces-joined N c pieces h (value empty_store)) ∙ end-file N c (joined pieces) report

  from-here : (x : Answer Netlist) → before_test netlist class ws work ≡ x → (x into joined_end) ≡ (x into λ M. audit_file M c (joined pieces) report)
  from-here (refused n) q = refl
  from-here (value M) q =
      let r = reached→ netlist class ws work M q in
      subst (λ (L : Netlist). joined_end L ≡ audit_file L c (joined pieces) report) (value_inj (sym e ∙ r.is_legal)) same_end

  pub calls-joined : pieces_call netlist class pieces report ws work ≡ audit_call netlist class (joined pieces) report ws work
  unfolding pieces_call audit_call audit_file
  calls-joined = from-here (before_test netlist class ws work) refl

-- The values that the pieces return: the state after them
module _ (netlist : List ℕ) (loaded : Loaded) (class : ℕ) (N : Netlist) (e : read_netlist netlist ≡ value N) where
  pub last-state : (before : TakenRecords) (ws : List ℕ) (ms : List MadePiece) → Promised netlist loaded class before ws ms
      → file_of (last_answer before ms).answer (last_left ws ms) ≡ with_pieces N (class_of class) (bytes_of ms) (file_of before.answer ws)
  unfolding with_pieces
  last-state before ws [] p = refl
  last-state before ws (m ∷ ms) p =
      last-state m.answer m.left ms p.1 ∙ ap (with_pieces N (class_of class) (bytes_of ms)) (p.0.answer N e)

-- An audit whose beginning passed, by its end
module _ (netlist : List ℕ) (class : ℕ) (test_file report ws work : List ℕ) (N : Netlist) (l : lent_rules ws work ≡ value tt)
    (b : before_test netlist class ws work ≡ value N) where
  abbrev at_end_of : Answer (List ℕ)
  at_end_of = end_of N (length test_file) report (with_piece N (class_of class) test_file (value empty_store))

  is-file : audit_call netlist class test_file report ws work ≡ audit_file N (class_of class) test_file report
  unfolding audit_call audit_file
  is-file = rw b refl

  pub end-answer : passes at_end_of ≡ audit_answer netlist class test_file report ws work
  unfolding audit_answer
  end-answer = ap (λ (x : Answer (List ℕ)). passes x) (end-file N (class_of class) test_file report ∙ sym is-file)

  pub end-store : left_store at_end_of ≡ audit_store netlist class test_file report ws work
  end-store = ap left_store (end-file N (class_of class) test_file report) ∙ audit_left netlist class test_file report ws work l (audit_file N (class_of class) test_file report) is-file

  pub end-work : (work' : List ℕ) → length work' ≡ length work → drop work_words_count work' ≡ drop work_words_count work → WorkAfter netlist class ws work work'
  end-work work' k p = record { same_length_of = k; past_work = p; not_reached = λ n q. absurd (not_refused (sym q ∙ b)) }

-- a beginning that passed
module _ (netlist : List ℕ) (class : ℕ) (ws ws₀ work : List ℕ) (a : value tt ≡ begin_answer netlist class ws work) where
  passed : Passed (before_test netlist class ws work)
  unfolding begin_answer
  passed = then-first (before_test netlist class ws work) (value tt) (sym a)

  reached : Reached netlist class ws work passed.got
  reached = reached→ netlist class ws work passed.got passed.is

  pub begun-lent : lent_rules ws work ≡ value tt
  begun-lent = →checks (store_rule ws ∷ work_rule work ∷ []) reached.lent

  pub begun-known : within 1 2 class ≡ true
  begun-known = T→true (within 1 2 class) reached.known

  pub begun-before : (N : Netlist) → read_netlist netlist ≡ value N → before_test netlist class ws work ≡ value N
  begun-before N e = passed.is ∙ ap (λ (M : Netlist). value M) (value_inj (sym reached.is_legal ∙ e))

  pub begun-empty : ws₀ ≡ begin_store ws work → ws₀ ≡ empty_store
  unfolding begin_store
  begun-empty s = s ∙ rw begun-lent refl

  pub begun-memory : (N : Netlist) → ws₀ ≡ begin_store ws work → MemoryReady N ws₀ work
  begun-memory N s =
      let p = checks→ (store_rule ws ∷ work_rule work ∷ []) (record { got = tt; is = begun-lent }) in
      subst (λ (x : List ℕ). MemoryReady N x work) (sym (begun-empty s)) (empty-memory N work (leb→le work_words_count (length work) p.1.0))

-- what a beginning answers
pub told-ready : (netlist : List ℕ) (class : ℕ) (ws ws₀ work : List ℕ) (b : Begun) → BeginTrue b netlist class ws ws₀ work → b.answer ≡ Ok tt
    → value tt ≡ begin_answer netlist class ws work
told-ready netlist class ws ws₀ work b t q = sym (ap (λ (x : Result (Unit {0}) Refusal). answer_of x) q) ∙ t.answer

pub told-refused : (netlist : List ℕ) (class : ℕ) (ws ws₀ work : List ℕ) (b : Begun) → BeginTrue b netlist class ws ws₀ work
    → (w : Refusal) → b.answer ≡ Err w → refused (refusal_number_of w) ≡ begin_answer netlist class ws work
told-refused netlist class ws ws₀ work b t w q = sym (ap (λ (x : Result (Unit {0}) Refusal). answer_of x) q) ∙ t.answer

-- The steps that were made
pub pieces-made : (netlist : List ℕ) (class : ℕ) (ms : List MadePiece) (report ws ws' work : List ℕ) (r : Result (Unit {0}) Refusal)
    → StepsMade netlist class ms report ws ws' work r → AuditTrue r netlist class (joined (bytes_of ms)) report ws ws' work work
pieces-made netlist class ms report ws ws' work r m =
    let N : Netlist = m.circuit in
    let c : Class = class_of class in
    let test_file : List ℕ = joined (bytes_of ms) in
    let ws₀ : List ℕ = m.emptied in
    let loaded : Loaded = m.loaded in
    let told = told-ready netlist class ws ws₀ work m.begun m.begins m.is_ready in
    let lent = begun-lent netlist class ws ws₀ work told in
    let before = begun-before netlist class ws ws₀ work told N m.legal in
    let empty = begun-empty netlist class ws ws₀ work told m.begins.store in
    let s : file_of (last_answer no_records ms).answer (last_left ws₀ ms) ≡ with_piece N c test_file (value empty_store) =
    last-state netlist loaded class N m.legal no_records ws₀ ms m.takes
    ∙ pieces-joined N c (bytes_of ms) m.whole (value ws₀)
    ∙ ap (λ (x : List ℕ). with_piece N c test_file (value x)) empty in
    record {
      answer = m.ends.answer N m.legal ∙ ap (λ (x : Answer (List ℕ)). passes (end_of N (length test_file) report x)) s
          ∙ end-answer netlist class test_file report ws work N lent before;
      store = m.ends.store N m.legal ∙ ap (λ (x : Answer (List ℕ)). left_store (end_of N (length test_file) report x)) s
          ∙ end-store netlist class test_file report ws work N lent before;
      work = end-work netlist class test_file report ws work N lent before work refl refl;
    }

-- The other steps can then be made
pub begun-ready : (netlist : List ℕ) (class : ℕ) (ws ws₀ work : List ℕ) (b : Begun) → BeginTrue b netlist class ws ws₀ work → b.answer ≡ Ok tt
    → ReadyTables b netlist ws₀ work
unfolding begin_answer
begun-ready netlist class ws ws₀ work b t q = go b.tables refl
  where
    go : (x : Result Loaded Refusal) → b.tables ≡ x → ReadyTables b netlist ws₀ work
    go (Err w) e =
        let a = told-ready netlist class ws ws₀ work b t q in
        let l = begun-lent netlist class ws ws₀ work a in
        let z : value tt ≡ refused (refusal_number_of w) = a ∙ rw (l, loaded_refused b.tables netlist t.tables w e) refl in
        absurd (not_refused (sym z))
    go (Ok d) e =
        let a = told-ready netlist class ws ws₀ work b t q in
        let g = loaded_legal b.tables netlist t.tables d e in
        record {
          loaded = d;
          tables_are = e;
          ready = record {
            circuit = g.circuit;
            tables = g.tables;
            total_is = g.total_is;
            memory = begun-memory netlist class ws ws₀ work a g.circuit t.store;
          };
        }

-- a beginning that was refused, with the number `n`
module _ (netlist : List ℕ) (class : ℕ) (test_file report ws ws₀ work : List ℕ) (n : ℕ) (a : refused n ≡ begin_answer netlist class ws work) (s : ws₀ ≡ begin_store ws work) where
  pub untouched : WorkAfter netlist class ws work work
  untouched = record { same_length_of = refl; past_work = refl; not_reached = λ n e. refl }

  -- answer and store of the audit
  abbrev Refuses : Type 0
  Refuses = (refused n ≡ audit_answer netlist class test_file report ws work) × (ws₀ ≡ audit_store netlist class test_file report ws work)

  at-class : (N : Netlist) → lent_rules ws work ≡ value tt → read_netlist netlist ≡ value N → (k : Bool) → within 1 2 class ≡ k → Refuses
  unfolding audit_answer audit_call begin_answer begin_store
  at-class N l e true k =
      let c : refused n ≡ value tt = a ∙ rw (l, e) (rw k refl) in
      absurd (not_refused c)
  at-class N l e false k =
      let c : audit_call netlist class test_file report ws work ≡ refused 83 = rw (l, e) (rw k refl) in
      (a ∙ rw (l, e) (rw k refl), s ∙ rw l refl ∙ sym (audit_emptied netlist class test_file report ws work 83 l c))

  at-netlist : (y : Answer Netlist) → lent_rules ws work ≡ value tt → read_netlist netlist ≡ y → Refuses
  unfolding audit_answer audit_call begin_answer begin_store
  at-netlist (refused k) l e =
      let c : audit_call netlist class test_file report ws work ≡ refused k = rw (l, e) refl in
      (a ∙ rw (l, e) refl, s ∙ rw l refl ∙ sym (audit_emptied netlist class test_file report ws work k l c))
  at-netlist (value N) l e = at-class N l e (within 1 2 class) refl

  at-lent : (x : Answer (Unit {0})) → lent_rules ws work ≡ x → Refuses
  unfolding audit_answer audit_call begin_answer begin_store
  at-lent (refused k) l = (a ∙ rw l refl, s ∙ rw l refl ∙ sym (audit_found netlist class test_file report ws work k l))
  at-lent (value u) l = at-netlist (read_netlist netlist) l refl

  pub begun-refused : Refuses
  begun-refused = at-lent (lent_rules ws work) refl
