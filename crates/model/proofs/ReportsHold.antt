-- The writer and the audit of demand 3, and demand 3 whole.
-- The idea: a store that holds exactly what a file's tests detect has one record, the file's true report; the writer writes it, the audit compares with it.
use Rattle.model.proofs.Prelude.{ℕ, ◌≤◌, ◌≡◌, ◌∙◌, ap, refl, sym, subst, not, List, [], ◌∷◌, ◌++◌, length, drop, T, leb→le, eqb→eq, le→leb}
use Rattle.model.specs.Base.{Answer, refused, value, ◌into◌, ◌then◌, Rule, checks, after}
use Rattle.model.specs.Netlist.{Netlist, path_total, max_count}
use Rattle.model.specs.Path.{Edge, rising, falling}
use Rattle.model.specs.Detect.{Class, Test}
use Rattle.model.specs.Read.{read_netlist, class_of, class_rule}
use Rattle.model.specs.Store.{of_edge, store_words_count, max_runs, empty_store, tests_taken_of, store_runs, runs_by_edge, store_rules}
use Rattle.model.specs.Runs.{size}
use Rattle.model.specs.Calls.{store_rule, work_rule, work_words_count, before_test}
use Rattle.model.specs.Report.{report_rule, test_all, writer_call, writer_answer, writer_buffer, audit_call, audit_answer, report_record, named_runs, report_rules, whole_records, file_records}
use Rattle.model.specs.Report.{report_buffer_bytes}
use Rattle.model.specs.Demand3.{Call, RunsOfDetected, known_class, WhollyTaken, FileCalls, left_by, tests_of, TrueReport, NamesDetected, WriterTrue, Acceptable, Demand3}
use Rattle.model.proofs.WellFormed.{WellFormed}
use Rattle.model.proofs.BeforeLaws.{reached→, other-class}
use Rattle.model.proofs.AnswerLaws.{AllPass, same→, steps, checks→, →checks, then-first, then-second, value_inj}
use Rattle.model.proofs.ReadLaws.{legal, limits}
use Rattle.model.proofs.FaultLaws.{detected_at}
use Rattle.model.proofs.HoldingLaws.{holding-runs, of_edge-by_edge}
use Rattle.model.proofs.DemandHolds.{HoldsTests, one_list, holds-fault, as_count_of, runs-true, sizes-true, after-every-list}
use Rattle.model.proofs.ReportLaws.{report-passes}
use Rattle.model.proofs.ReportNames.{names-exactly}
use Rattle.model.proofs.FileLaws.{left-holding, left-length, left-passes, file-passes, file-left, file-taken, length-tests_of}
use Rattle.model.proofs.RefusalLaws.{audit_at-end}

module _ (N : Netlist) (w : WellFormed N) (ts : List Test) (left : List ℕ) (x : HoldsTests N ts left) where
  runs-left : (d : Edge) → RunsOfDetected N ts d (of_edge (runs_by_edge left) d)
  runs-left d = subst (λ rs. RunsOfDetected N ts d rs) (sym (of_edge-by_edge (store_runs left) d)) (runs-true N w ts left x d)

  few-left : (d : Edge) → length (of_edge (runs_by_edge left) d) ≤ max_runs
  few-left d = rw (of_edge-by_edge (store_runs left) d, holding-runs N left (detected_at N ts) x.holding d) (x.holding.fits d)

  -- The record of the store's runs is the true report
  pub left-true : (n : ℕ) → n ≡ length ts → TrueReport N ts (report_record n (path_total N) (runs_by_edge left))
  left-true n q = record {
    runs = runs_by_edge left;
    of_tests = runs-left;
    faults = λ d. as_count_of (ap size (sym (of_edge-by_edge (store_runs left) d))) (sizes-true N w ts left x d);
    layout = ap (λ k. report_record k (path_total N) (runs_by_edge left)) q;
  }

  -- and names exactly the detected faults
  pub left-names : path_total N ≤ max_count → (n : ℕ) → NamesDetected N ts (report_record n (path_total N) (runs_by_edge left))
  left-names h n =
      let names = names-exactly N h ts (runs_by_edge left) runs-left few-left n in
      record {
        names_fault = λ f v. holds-fault N w ts f (named_runs (report_record n (path_total N) (runs_by_edge left)) f.edge) (names f.edge) v;
        names_no_other = names;
      }

  -- and the only one
  pub true_left : (n : ℕ) → n ≡ length ts → (report : List ℕ) → TrueReport N ts report → report ≡ report_record n (path_total N) (runs_by_edge left)
  true_left n q report r =
      let p : (d : Edge) → of_edge r.runs d ≡ of_edge (runs_by_edge left) d = λ d. one_list N ts d _ _ (r.of_tests d) (runs-left d) in
      r.layout
      ∙ ap (report_record (length ts) (path_total N)) (λ i. record { on_rising = p rising i; on_falling = p falling i })
      ∙ ap (λ k. report_record k (path_total N) (runs_by_edge left)) (sym q)

-- The writer, on the store that a wholly taken file leaves
module _ (netlist : List ℕ) (N : Netlist) (e : read_netlist netlist ≡ value N) (c : Class) (test_file left : List ℕ)
    (t : test_all N c (file_records N test_file) empty_store ≡ value left) (buffer : List ℕ) (l : report_buffer_bytes ≤ length buffer) where
  n : ℕ
  n = length (file_records N test_file)

  tests_left : tests_taken_of left ≡ n
  unfolding n
  tests_left = (left-holding N c (file_records N test_file) left t).counted ∙ sym (length-tests_of N c test_file)

  writer_gives : writer_call netlist left buffer ≡ value (report_record n (path_total N) (runs_by_edge left))
  unfolding writer_call
  writer_gives =
      let a : checks (store_rule left ∷ report_rule buffer ∷ []) ≡ value tt =
      →checks (store_rule left ∷ report_rule buffer ∷ [])
      (rw (left-length N c (file_records N test_file) left t) tt, (le→leb report_buffer_bytes (length buffer) l, tt)) in
      let b : checks (store_rules (path_total N) left) ≡ value tt =
      →checks (store_rules (path_total N) left) (left-passes N c (file_records N test_file) left t) in
      rw (a, e) (rw b (ap (λ k. value (report_record k (path_total N) (runs_by_edge left))) tests_left))

  writer_true : WriterTrue netlist N c test_file left buffer
  unfolding writer_answer writer_buffer n
  writer_true = record {
    report = report_record n (path_total N) (runs_by_edge left);
    is_true = left-true N (legal netlist N e) (tests_of N c test_file) left (left-holding N c (file_records N test_file) left t) n (length-tests_of N c test_file);
    names = left-names N (legal netlist N e) (tests_of N c test_file) left (left-holding N c (file_records N test_file) left t)
        (limits netlist N e).total_fits n;
    returned = ap (λ a. a into λ r. value (length r)) writer_gives;
    written = ap (λ a. after a buffer (λ r. r ++ drop (length r) buffer)) writer_gives;
  }

writer_writes : (netlist : List ℕ) (N : Netlist) → read_netlist netlist ≡ value N → (class : ℕ) → T (known_class class)
    → (test_file : List ℕ) → WhollyTaken N (class_of class) test_file → (calls : List Call) → FileCalls N class test_file calls
    → (buffer : List ℕ) → report_buffer_bytes ≤ length buffer → WriterTrue netlist N (class_of class) test_file (left_by netlist N calls) buffer
writer_writes netlist N e class k test_file h calls f buffer l =
    let p = file-passes netlist N e (class_of class) test_file h in
    subst (λ ws. WriterTrue netlist N (class_of class) test_file ws buffer) (sym (file-left netlist N e class k test_file calls f p.got p.is))
    (writer_true netlist N e (class_of class) test_file p.got p.is buffer l)

-- The audit
module _ (netlist : List ℕ) (class : ℕ) (test_file report ws work : List ℕ) where
  c : Class
  c = class_of class

  whole : Netlist → Answer (Unit {0})
  whole N = checks ((33, whole_records N test_file) ∷ [])

  rules : Netlist → List ℕ → List Rule
  rules N left = report_rules report (report_record (length (file_records N test_file)) (path_total N) (runs_by_edge left))

  accepts→ : audit_answer netlist class test_file report ws work ≡ value tt → Acceptable netlist class test_file report ws work
  unfolding audit_answer audit_call whole rules c
  accepts→ a =
      let end : Netlist → List ℕ → Answer (List ℕ) = λ N left. checks (rules N left) then value left in
      let p = steps (before_test netlist class ws work) (λ N. (whole N then test_all N c (file_records N test_file) empty_store) into end N)
      (then-first (audit_call netlist class test_file report ws work) (value tt) a).is in
      let N : Netlist = p.got in
      let h = reached→ netlist class ws work N p.first in
      let q = steps (whole N then test_all N c (file_records N test_file) empty_store) (end N) p.second in
      let left : List ℕ = q.got in
      let e : read_netlist netlist ≡ value N = h.is_legal in
      let v = (checks→ ((33, whole_records N test_file) ∷ []) (then-first (whole N) (test_all N c (file_records N test_file) empty_store) q.first)).0 in
      let t : test_all N c (file_records N test_file) empty_store ≡ value left =
      then-second (whole N) (test_all N c (file_records N test_file) empty_store) q.first in
      let s = checks→ (rules N left) (then-first (checks (rules N left)) (value left) q.second) in
      record {
        store_length = eqb→eq (length ws) store_words_count h.lent.0;
        work_length = leb→le work_words_count (length work) h.lent.1.0;
        circuit = N;
        legal = e;
        known = h.known;
        taken = file-taken netlist N e c test_file left v t;
        reported = subst (λ b. TrueReport N (tests_of N c test_file) b)
            (sym (same→ report (report_record (length (file_records N test_file)) (path_total N) (runs_by_edge left)) s.1.1.0))
            (left-true N (legal netlist N e) (tests_of N c test_file) left (left-holding N c (file_records N test_file) left t)
            (length (file_records N test_file)) (length-tests_of N c test_file));
      }

  lent-passes : length ws ≡ store_words_count → work_words_count ≤ length work → AllPass (store_rule ws ∷ work_rule work ∷ [])
  lent-passes l m = (rw l tt, (le→leb work_words_count (length work) m, tt))

  →accepts : Acceptable netlist class test_file report ws work → audit_answer netlist class test_file report ws work ≡ value tt
  unfolding audit_answer rules c
  →accepts a =
      let N : Netlist = a.circuit in
      let ts : List Test = tests_of N c test_file in
      let n : ℕ = length (file_records N test_file) in
      let y = file-passes netlist N a.legal c test_file a.taken in
      let left : List ℕ = y.got in
      let x = left-holding N c (file_records N test_file) left y.is in
      let r : report ≡ report_record n (path_total N) (runs_by_edge left) =
      true_left N (legal netlist N a.legal) ts left x n (length-tests_of N c test_file) report a.reported in
      let l = →checks (store_rule ws ∷ work_rule work ∷ []) (lent-passes a.store_length a.work_length) in
      let k = →checks (class_rule class ∷ []) (a.known, tt) in
      let f : checks (rules N left) ≡ value tt =
      →checks (rules N left)
      (rw r (report-passes n (path_total N) (runs_by_edge left) (few-left N (legal netlist N a.legal) ts left x))) in
      let d = →checks ((33, whole_records N test_file) ∷ []) (a.taken.whole, tt) in
      rw (audit_at-end netlist class test_file report ws work l N a.legal k d left y.is f) refl

  other-refused : (N : Netlist) → read_netlist netlist ≡ value N → T (not (known_class class)) → length ws ≡ store_words_count → work_words_count ≤ length work
      → audit_answer netlist class test_file report ws work ≡ refused 83
  unfolding audit_answer audit_call
  other-refused N e k l m = rw (other-class netlist class ws work N (lent-passes l m) e k) refl

  -- the accepted report is the writer's, which names exactly the detected faults
  accepted_names_lem : audit_answer netlist class test_file report ws work ≡ value tt → (N : Netlist) → read_netlist netlist ≡ value N
      → NamesDetected N (tests_of N (class_of class) test_file) report
  unfolding c
  accepted_names_lem q N e =
      let a = accepts→ q in
      let M : Netlist = a.circuit in
      let y = file-passes netlist M a.legal c test_file a.taken in
      let x = left-holding M c (file_records M test_file) y.got y.is in
      let w = legal netlist M a.legal in
      let n : ℕ = length (file_records M test_file) in
      let ts : List Test = tests_of M c test_file in
      let r : report ≡ report_record n (path_total M) (runs_by_edge y.got) =
      true_left M w ts y.got x n (length-tests_of M c test_file) report a.reported in
      let z : NamesDetected M ts report =
      subst (λ b. NamesDetected M ts b) (sym r) (left-names M w ts y.got x (limits netlist M a.legal).total_fits n) in
      subst (λ (L : Netlist). NamesDetected L (tests_of L c test_file) report) (value_inj (sym a.legal ∙ e)) z

-- Demand 3
pub demand_3 : Demand3
demand_3 = record {
  after_every_list = after-every-list;
  writes = writer_writes;
  audits = λ netlist class test_file report ws work. (accepts→ netlist class test_file report ws work, →accepts netlist class test_file report ws work);
  accepted_names = accepted_names_lem;
  audits_other_class = λ netlist N e class k test_file report ws work. other-refused netlist class test_file report ws work N e k;
}
