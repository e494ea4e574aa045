-- The bounds on the runs of a store, and no 51 on a netlist with few paths; no 86 in an audit.
-- The idea: the store's runs are those of the set of the detected numbers, and a set has no more runs than numbers, nor than gaps between them and one.
use Rattle.model.proofs.Prelude.{ℕ, ◌≤◌, ◌+◌, suc, ◌/◌, ◌%◌, ◌≡◌, ◌∙◌, ap, refl, sym, subst, true, Bool, List, [], ◌∷◌, length, leb, T, eqb, leb→le}
use Rattle.model.proofs.Prelude.{ltb, le→leb, lt→ltb, arith}
use Rattle.model.specs.Base.{Answer, refused, value, ◌into◌, ◌then◌, Rule, checks, passes}
use Rattle.model.specs.Netlist.{Netlist, path_total}
use Rattle.model.specs.Path.{Edge}
use Rattle.model.specs.Detect.{Class, Test}
use Rattle.model.specs.Runs.{Run, runs_among, how_many, size}
use Rattle.model.specs.Read.{read_netlist, class_of, class_rule, test_of, record_length}
use Rattle.model.specs.Store.{ByEdge, max_runs, max_tests, both_edges, empty_store, store_runs, runs_by_edge, tests_taken_of}
use Rattle.model.specs.Calls.{Tested, store_left, tested, held_then_of, runs_then_of, stage_rules, test_stage, test_call, test_answer, store_rule, work_rule, before_test}
use Rattle.model.specs.Report.{test_all, audit_call, audit_answer, whole_records, file_records, report_rules, report_record}
use Rattle.model.specs.Demand3.{RunsOfDetected, start, after_calls}
use Rattle.model.proofs.BoolLaws.{both, and_right}
use Rattle.model.proofs.WellFormed.{WellFormed}
use Rattle.model.proofs.AnswerLaws.{steps, value_inj}
use Rattle.model.proofs.BeforeLaws.{reached→}
use Rattle.model.proofs.RefusalLaws.{refused-inj}
use Rattle.model.proofs.ReadLaws.{legal}
use Rattle.model.proofs.RunSizeLaws.{runs-size, few-runs}
use Rattle.model.proofs.FaultLaws.{detected_at, count_of_detected, runs-detected}
use Rattle.model.proofs.ReportLaws.{length-records}
use Rattle.model.proofs.StoreLaws.{at_both, tests-store}
use Rattle.model.proofs.DemandHolds.{one_list}
use Rattle.model.proofs.ReportsHold.{demand_3}
use Rattle.store_coverage.specs.TestCall.{tested_of}
use Rattle.audit_judging.specs.FileJudging.{store_checked}
use Rattle.audit.specs.Promised.{last_store, taken_tests}
use Rattle.audit.proofs.PromisesHold.{calls-true}
use Rattle.exhaust_pairs.specs.AllPairs.{all_pairs}
use Rattle.exhaust_pairs.specs.Exhaust.{few_inputs, pairs_on, exhaust_call, exhaust_answer}
use Rattle.exhaust_pairs.proofs.OnTheWayLaws.{early, before-numbers}
use Rattle.exhaust.specs.Answers.{totals_among}
use Rattle.audit_pieces.specs.Calls.{RecordsSaid, records_said, piece_of, piece_answer}
use Rattle.audit_run_bounds.specs.Bounds.{small_total, RunsBounded, FewRuns, CallsFewRuns, FewTests}
use Rattle.audit_run_bounds.proofs.AvoidLaws.{Avoids, avoids, avoid_then, avoid_bind, avoid_after, avoid_check-then, avoid_checks}
use Rattle.model.specs.Returned.{answer_of}

-- where runs and their numbers together are at most one more than T, the numbers alone are at most T
within-total : (rs : List Run) (paths : ℕ) → length rs + size rs ≤ suc paths → size rs ≤ paths
unfolding size
within-total [] paths h = omega arith
within-total (r ∷ rs) paths h = omega (arith, h)

-- runs that hold exactly what the tests detect
bounded : (N : Netlist) → WellFormed N → (ts : List Test) (ws : List ℕ) (e : Edge) → RunsOfDetected N ts e (store_runs ws e) → RunsBounded N ts ws e
bounded N w ts ws e exact =
    let D : ℕ → Bool = detected_at N ts e in
    let rs : List Run = runs_among D (path_total N) in
    let few = few-runs D (path_total N) in
    let same : length (store_runs ws e) ≡ length rs = ap length (one_list N ts e (store_runs ws e) rs exact (runs-detected N w e ts)) in
    let sized = runs-size D (path_total N) in
    let most = within-total rs (path_total N) (omega (arith, sized, few.1)) in
    record {
      tested = how_many D (path_total N);
      tested_true = count_of_detected N w e ts;
      at_most_tested = omega (arith, same, few.0);
      not_over_total = omega (arith, sized, most);
      at_most_rest = omega (arith, same, few.1, sized, most);
    }

module _ (N : Netlist) (h : path_total N ≤ small_total) where
  -- one more test leaves at most 1,024 runs, whatever the store held
  room : (s : ByEdge (List Run)) (t : Test) (e : Edge) → length (runs_then_of N s t e) ≤ max_runs
  room s t e = let f = few-runs (held_then_of N s t e) (path_total N) in omega (arith, f.0, f.1, h)

  stage-room : (c : Class) (rec ws : List ℕ) → Avoids 51 (test_stage N c rec ws)
  unfolding test_stage
  stage-room c rec ws =
      let t : Test = test_of N c rec in
      let fits : Edge → Bool = λ e. leb (length (runs_then_of N (runs_by_edge ws) t e)) max_runs in
      avoid_then 51 (checks (stage_rules N c rec ws)) (value (tested N (tests_taken_of ws) (runs_by_edge ws) t))
      (avoid_checks 51 (stage_rules N c rec ws) (both (both_edges fits) true (at_both fits (λ e. le→leb _ max_runs (room (runs_by_edge ws) t e))) tt)) tt

  all_room : (c : Class) (recs : List (List ℕ)) (ws : List ℕ) → Avoids 51 (test_all N c recs ws)
  unfolding test_all
  all_room c [] ws = tt
  all_room c (r ∷ rs) ws = avoid_bind 51 (test_stage N c r ws) (λ d. test_all N c rs (store_left d)) (stage-room c r ws) (λ d. all_room c rs (store_left d))

-- the places before Test, on a legal netlist, and what comes then
abbrev before_then : {A : Type 0} → Netlist → ℕ → List ℕ → List ℕ → (Netlist → Answer A) → Answer A
before_then N class ws work f = checks (store_rule ws ∷ work_rule work ∷ []) then value N into (λ M. checks (class_rule class ∷ []) then value M) into f

before-avoids : {A : Type 0} (N : Netlist) (class : ℕ) (ws work : List ℕ) (f : Netlist → Answer A) → Avoids 51 (f N) → Avoids 51 (before_then N class ws work f)
before-avoids {A} N class ws work f h =
    known (checks (store_rule ws ∷ work_rule work ∷ [])) (avoid_checks 51 (store_rule ws ∷ work_rule work ∷ []) tt)
  where
    known₂ : (m : Answer (Unit {0})) → Avoids 51 m → Avoids 51 (m then value N into f)
    known₂ (refused n) o = o
    known₂ (value u) o = h

    known : (m : Answer (Unit {0})) → Avoids 51 m → Avoids 51 (m then value N into (λ M. checks (class_rule class ∷ []) then value M) into f)
    known (refused n) o = o
    known (value u) o = known₂ (checks (class_rule class ∷ [])) (avoid_checks 51 (class_rule class ∷ []) tt)

module _ (netlist : List ℕ) (N : Netlist) (q : read_netlist netlist ≡ value N) (h : path_total N ≤ small_total) where
  no-test-full : (class : ℕ) (rec ws work : List ℕ) → test_answer netlist class rec ws work ≡ refused 51 → ⊥
  unfolding test_answer test_call
  no-test-full class rec ws work =
      let f : Netlist → Answer Tested = λ M. test_stage M (class_of class) rec ws in
      avoids 51 (test_answer netlist class rec ws work)
      (rw q (avoid_bind 51 (before_then N class ws work f) (λ r. value r.returned)
      (before-avoids N class ws work f (stage-room N h (class_of class) rec ws)) (λ r. tt)))

  no-audit_full : (class : ℕ) (test_file report ws work : List ℕ) → audit_answer netlist class test_file report ws work ≡ refused 51 → ⊥
  unfolding audit_answer audit_call
  no-audit_full class test_file report ws work =
      let rules : Netlist → List ℕ → List Rule =
      λ M left. report_rules report (report_record (length (file_records M test_file)) (path_total M) (runs_by_edge left)) in
      let whole : Netlist → List Rule = λ M. (33, whole_records M test_file) ∷ [] in
      let tests : Netlist → Answer (List ℕ) = λ M. test_all M (class_of class) (file_records M test_file) empty_store in
      let f : Netlist → Answer (List ℕ) = λ M. checks (whole M) then tests M into λ left. checks (rules M left) then value left in
      avoids 51 (audit_answer netlist class test_file report ws work)
      (rw q (avoid_then 51 (before_then N class ws work f) (value tt)
      (before-avoids N class ws work f
      (avoid_bind 51 (checks (whole N) then tests N) (λ left. checks (rules N left) then value left)
      (avoid_then 51 (checks (whole N)) (tests N) (avoid_checks 51 (whole N) tt) (all_room N h (class_of class) (file_records N test_file) empty_store))
      (λ left. avoid_then 51 (checks (rules N left)) (value left) (avoid_checks 51 (rules N left) tt) tt))) tt))

  no-pairs-full : (class : ℕ) (ws work : List ℕ) → exhaust_answer netlist class ws work ≡ refused 51 → ⊥
  unfolding exhaust_answer exhaust_call pairs_on
  no-pairs-full class ws work =
      let f : Netlist → Answer (List ℕ) = λ M. pairs_on M (class_of class) in
      avoids 51 (exhaust_answer netlist class ws work)
      (rw q (avoid_bind 51 (before_then N class ws work f) _
      (before-avoids N class ws work f
      (avoid_then 51 (checks (few_inputs N ∷ [])) _ (avoid_checks 51 (few_inputs N ∷ []) tt) (all_room N h (class_of class) (all_pairs N.inputs) empty_store))) (λ left. tt)))

  -- the records of a piece: the netlist that they are judged on is the one that was read
  no-record_full : (class : ℕ) (bytes ws work : List ℕ) (said : RecordsSaid) → said.said ≡ refused 51 → value said ≡ piece_answer netlist class bytes ws work → ⊥
  unfolding piece_answer records_said
  no-record_full class bytes ws work said full e =
      let c : Class = class_of class in
      let p = steps (before_test netlist class ws work) (λ M. store_checked (path_total M) ws into λ sound. value (records_said M c bytes sound)) (sym e) in
      let M : Netlist = p.got in
      let r = steps (store_checked (path_total M) ws) (λ sound. value (records_said M c bytes sound)) p.second in
      let same : M ≡ N = value_inj (sym (reached→ netlist class ws work M p.first).is_legal ∙ q) in
      let small : path_total M ≤ small_total = subst (λ (K : Netlist). path_total K ≤ small_total) (sym same) h in
      let tests = test_all M c (file_records M bytes) r.got in
      let last : passes tests ≡ refused 51 = ap (λ (x : RecordsSaid). x.said) (value_inj r.second) ∙ full in
      avoids 51 (passes tests) (avoid_then 51 tests (value tt) (all_room M small c (file_records M bytes) r.got) tt) last

-- How many runs there can be, of the calls' definitions
pub few-runs-hold : FewRuns
few-runs-hold = record {
  after_every_list = λ netlist N q calls e.
      let s = after_calls netlist N start calls in
      bounded N (legal netlist N q) s.taken s.store e ((demand_3.after_every_list netlist N q calls).holds_no_other e);
  no_test_full = no-test-full;
  no_audit_full = no-audit_full;
  no_pairs_full = no-pairs-full;
}

-- and of the values that the functions return
pub calls-few-runs : CallsFewRuns
calls-few-runs = record {
  after_every_list = λ netlist N q ms p e.
      bounded N (legal netlist N q) (taken_tests N [] ms) (last_store empty_store ms) e ((calls-true.after_every_list netlist N q ms p).holds_no_other e);
  no_test_full = λ r netlist N q h class rec ws ws' found left t full. no-test-full netlist N q h class rec ws found (sym t.answer ∙ ap tested_of full);
  no_audit_full = λ r netlist N q h class test_file report ws ws' found left t full.
      no-audit_full netlist N q h class test_file report ws found (sym t.answer ∙ ap answer_of full);
  no_pairs_full = λ r netlist N q h class ws ws' found left t full. no-pairs-full netlist N q h class ws found (sym t.answer ∙ ap totals_among full);
  no_record_full = λ r netlist N q h class bytes ws ws' found left t taken full.
      no-record_full netlist N q h class bytes ws found (record { taken = taken; said = refused 51 }) refl (sym (ap piece_of full) ∙ t.answer);
}

-- Records that are no more than can still be counted
all-counted : (N : Netlist) (c : Class) (recs : List (List ℕ)) (ws : List ℕ) → length recs + tests_taken_of ws ≤ max_tests → Avoids 86 (test_all N c recs ws)
unfolding test_all test_stage tested
all-counted N c [] ws few = tt
all-counted N c (r ∷ rs) ws few =
    let d : Tested = tested N (tests_taken_of ws) (runs_by_edge ws) (test_of N c r) in
    let one : tests_taken_of (store_left d) ≡ suc (tests_taken_of ws) = tests-store d.tests d.runs in
    let more : Bool = ltb (tests_taken_of ws) max_tests in
    avoid_after 86 (checks (stage_rules N c r ws)) d (λ x. test_all N c rs (store_left x))
    (avoid_checks 86 (stage_rules N c r ws) (both more true (lt→ltb (tests_taken_of ws) max_tests (omega (arith, few))) tt))
    (all-counted N c rs (store_left d) (omega (arith, few, one)))

no-audit_counted : (netlist : List ℕ) (class : ℕ) (test_file report ws work : List ℕ) → audit_answer netlist class test_file report ws work ≡ refused 86 → ⊥
unfolding audit_answer audit_call
no-audit_counted netlist class test_file report ws work = go (before_test netlist class ws work) refl
  where
    go : (x : Answer Netlist) → before_test netlist class ws work ≡ x → audit_answer netlist class test_file report ws work ≡ refused 86 → ⊥
    go (refused n) b =
        let same : audit_answer netlist class test_file report ws work ≡ refused n = rw b refl in
        λ q. subst (λ (k : ℕ). T (early k)) (refused-inj (sym same ∙ q)) (before-numbers netlist class ws work n b)
    go (value N) b =
        let rules : List ℕ → List Rule = λ left. report_rules report (report_record (length (file_records N test_file)) (path_total N) (runs_by_edge left)) in
        let whole : Bool = whole_records N test_file in
        let tests : Answer (List ℕ) = test_all N (class_of class) (file_records N test_file) empty_store in
        let len : ℕ = record_length N in
        let n : ℕ = length test_file / len in
        let counted : T whole → Avoids 86 tests =
        λ w. all-counted N (class_of class) (file_records N test_file) empty_store
        (omega (arith, length-records len n test_file, leb→le n max_tests (and_right (eqb (length test_file % len) 0) (leb n max_tests) w))) in
        avoids 86 (audit_answer netlist class test_file report ws work)
        (rw b (avoid_then 86 (checks ((33, whole) ∷ []) then tests into λ left. checks (rules left) then value left) (value tt)
        (avoid_bind 86 (checks ((33, whole) ∷ []) then tests) (λ left. checks (rules left) then value left)
        (avoid_check-then 86 33 whole tests tt counted)
        (λ left. avoid_then 86 (checks (rules left)) (value left) (avoid_checks 86 (rules left) tt) tt)) tt))

pub few-tests-hold : FewTests
few-tests-hold = record {
  no_audit = no-audit_counted;
  no_audit_made = λ r netlist class test_file report ws ws' found left t full.
      no-audit_counted netlist class test_file report ws found (sym t.answer ∙ ap answer_of full);
}
