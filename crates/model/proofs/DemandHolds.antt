-- Demand 3 after every list of test calls: the store holds exactly the detected faults, the totals and each call's numbers are true.
-- The idea: one fact, `Holds`, that the store's words are those of the number of the taken tests and of the runs of the detected numbers, is
-- kept by each call, taken or refused.
use Rattle.model.proofs.Prelude.{ℕ, ◌≤◌, suc, ◌≡◌, ◌∙◌, ap, refl, sym, subst, ◌↔◌, not, List, [], ◌∷◌, length, T, leb→le, le→leb, arith}
use Rattle.model.specs.Base.{Answer, refused, value, checks, after}
use Rattle.model.specs.Netlist.{Netlist, path_total}
use Rattle.model.specs.Path.{Edge, Fault, valid, number_of, path_of}
use Rattle.model.specs.Detect.{Class, Test}
use Rattle.model.specs.Runs.{Run, runs_among, in_runs, size}
use Rattle.model.specs.Read.{read_netlist, class_of, test_rules, test_of}
use Rattle.model.specs.Store.{by_edge, max_runs, tests_taken_of, store_runs, runs_by_edge, store_rules}
use Rattle.model.specs.Calls.{Tested, store_left, tested, FaultCounts, test_stage, test_call, test_answer, test_store, before_test, totals_call, store_rule, work_rule, work_words_count}
use Rattle.model.specs.Demand3 as demand
use Rattle.model.specs.Demand3.{CountOf, Detected, RunsOfDetected, detected_by, Call, State, start, test_in, next, after_calls, known_class, NoTestRefusal, NoRefusal, Taken, Returned}
use Rattle.model.specs.Demand3.{StoreTrue}
use Rattle.model.proofs.WellFormed.{WellFormed}
use Rattle.model.proofs.AnswerLaws.{AllPass, steps, checks→, →checks, value_inj}
use Rattle.model.proofs.BeforeLaws.{Reached, reached→, →reached, other-class}
use Rattle.model.proofs.RunLaws.{separated→, in→, →in, unique}
use Rattle.model.proofs.ReadLaws.{legal}
use Rattle.model.proofs.NumberLaws.{path-of_number}
use Rattle.model.proofs.FaultLaws.{detected_at, count_of_detected, count_of_new, runs-detected}
use Rattle.model.proofs.HoldingLaws.{Holding, holding-empty, holding-runs, holding-length, holding-passes, holding-size, holding-next, of_edge-by_edge, stage-passes, stage-taken}
use Rattle.model.proofs.HoldingLaws.{stage-rules, test-part, tests-few, work-few, work-room, stage-tests, returned-new, returned-held}
use Rattle.model.proofs.StoreLaws.{tests-store}

-- The runs of the detected numbers are one list
pub one_list : (N : Netlist) (ts : List Test) (e : Edge) (rs qs : List Run) → RunsOfDetected N ts e rs → RunsOfDetected N ts e qs → rs ≡ qs
one_list N ts e rs qs a b =
    unique (path_total N) 1 rs qs (separated→ (path_total N) 1 rs a.runs) (separated→ (path_total N) 1 qs b.runs)
    (λ j t. in→ qs j ((b.exactly j).1 ((a.exactly j).0 (→in rs j t))))
    (λ j t. in→ rs j ((a.exactly j).1 ((b.exactly j).0 (→in qs j t))))

-- By runs that hold exactly the detected numbers, a fault is held exactly when one of the tests detects it
pub holds-fault : (N : Netlist) → WellFormed N → (ts : List Test) (f : Fault) (rs : List Run) → RunsOfDetected N ts f.edge rs → T (valid N f.path)
    → T (in_runs rs (number_of N f.path)) ↔ T (detected_by N ts f)
holds-fault N w ts f rs h v = (
  λ t.
      let d = (h.exactly (number_of N f.path)).0 t in
      let q : d.path ≡ f.path = sym (path-of_number N w d.path d.detected.of_netlist) ∙ ap (path_of N) d.number ∙ path-of_number N w f.path v in
      subst (λ p. T (detected_by N ts (record { path = p; edge = f.edge }))) q d.detected.detected,
  λ t. (h.exactly (number_of N f.path)).1 (record { path = f.path; number = refl; detected = record { edge = refl; of_netlist = v; detected = t } }),
)

pub as_count_of : {P : Fault → Type 0} {m n : ℕ} → m ≡ n → CountOf P m → CountOf P n
as_count_of {P} q x = subst (λ k. CountOf P k) q x

-- A store that counts the tests `ts` and holds exactly what they detect
pub record HoldsTests (N : Netlist) (ts : List Test) (ws : List ℕ) : Type 0 where
  pub holding : Holding N ws (detected_at N ts)
  pub counted : tests_taken_of ws ≡ length ts

module _ (N : Netlist) (w : WellFormed N) (ts : List Test) (ws : List ℕ) (x : HoldsTests N ts ws) where
  pub runs-true : (d : Edge) → RunsOfDetected N ts d (store_runs ws d)
  runs-true d = subst (λ rs. RunsOfDetected N ts d rs) (sym (holding-runs N ws (detected_at N ts) x.holding d)) (runs-detected N w d ts)

  pub sizes-true : (d : Edge) → CountOf (Detected N ts d) (size (store_runs ws d))
  sizes-true d = as_count_of (sym (holding-size N ws (detected_at N ts) x.holding d)) (count_of_detected N w d ts)

  module _ (c : Class) (rec : List ℕ) where
    -- on it the test stage gives a result exactly when no condition of Test and Work holds
    pub stage→ : (r : Tested) → test_stage N c rec ws ≡ value r → NoTestRefusal N ts c rec
    unfolding detected_at
    stage→ r q =
        let p = stage-passes N c rec ws r q in
        record {
          legal_record = →checks (test_rules N rec) (test-part N c rec ws (detected_at N ts) x.holding p);
          few_tests = omega (arith, x.counted, tests-few N c rec ws (detected_at N ts) x.holding p);
          few_working = work-few N c rec ws (detected_at N ts) x.holding p;
          runs = λ d. runs_among (detected_at N (test_of N c rec ∷ ts) d) (path_total N);
          would_hold = λ d. runs-detected N w d (test_of N c rec ∷ ts);
          room = work-room N c rec ws (detected_at N ts) x.holding p;
        }

    pub →stage : NoTestRefusal N ts c rec → test_stage N c rec ws ≡ value (tested N (tests_taken_of ws) (runs_by_edge ws) (test_of N c rec))
    unfolding detected_at
    →stage n =
        stage-taken N c rec ws
        (stage-rules N c rec ws (detected_at N ts) x.holding
        (checks→ (test_rules N rec) (record { got = tt; is = n.legal_record }))
        (omega (arith, x.counted, n.few_tests))
        n.few_working
        (λ d. subst (λ rs. length rs ≤ max_runs) (one_list N (test_of N c rec ∷ ts) d (n.runs d) _ (n.would_hold d) (runs-detected N w d (test_of N c rec ∷ ts))) (n.room d)))

    pub stage-holding : (r : Tested) → test_stage N c rec ws ≡ value r → HoldsTests N (test_of N c rec ∷ ts) (store_left r)
    unfolding detected_at
    stage-holding r q = record {
      holding = holding-next N c rec ws (detected_at N ts) x.holding r q;
      counted = tests-store r.tests r.runs ∙ stage-tests N c rec ws (detected_at N ts) x.holding r q ∙ ap suc x.counted;
    }

    pub stage-returned : (r : Tested) → test_stage N c rec ws ≡ value r → (d : Edge) → Returned N ts (test_of N c rec) d r.returned
    unfolding detected_at
    stage-returned r q d = record {
      new_true = as_count_of (sym (returned-new N c rec ws (detected_at N ts) x.holding r q d)) (count_of_new N w d (test_of N c rec) ts);
      held_true = as_count_of (sym (returned-held N c rec ws (detected_at N ts) x.holding r q d)) (count_of_detected N w d (test_of N c rec ∷ ts));
    }

-- the store's words are those of the number of the taken tests and of the runs of the detected numbers
abbrev pub Holds : Netlist → State → Type 0
Holds N s = HoldsTests N s.taken s.store

pub holds-start : (N : Netlist) → Holds N start
unfolding detected_at
holds-start N = record { holding = holding-empty N; counted = refl }

module _ (netlist : List ℕ) (N : Netlist) (e : read_netlist netlist ≡ value N) where
  -- a call is taken exactly when its memory is long enough, its class is known and the stage gives a result
  call-reached : (class : ℕ) (rec ws work : List ℕ) (r : Tested) → test_call netlist class rec ws work ≡ value r → Reached netlist class ws work N
  unfolding test_call
  call-reached class rec ws work r q =
      let s = steps (before_test netlist class ws work) (λ M. test_stage M (class_of class) rec ws) q in
      let h = reached→ netlist class ws work s.got s.first in
      subst (λ M. Reached netlist class ws work M) (value_inj (sym h.is_legal ∙ e)) h

  pub call-stage : (class : ℕ) (rec ws work : List ℕ) (r : Tested) → test_call netlist class rec ws work ≡ value r → test_stage N (class_of class) rec ws ≡ value r
  unfolding test_call
  call-stage class rec ws work r q =
      let s = steps (before_test netlist class ws work) (λ M. test_stage M (class_of class) rec ws) q in
      let m : s.got ≡ N = value_inj (sym (reached→ netlist class ws work s.got s.first).is_legal ∙ e) in
      subst (λ M. test_stage M (class_of class) rec ws ≡ value r) m s.second

  module _ (s : State) (x : Holds N s) where
    w : WellFormed N
    w = legal netlist N e

    call-lent : (c : Call) → work_words_count ≤ length c.work → AllPass (store_rule s.store ∷ work_rule c.work ∷ [])
    call-lent c l = (rw (holding-length N s.store (detected_at N s.taken) x.holding) tt, (le→leb work_words_count (length c.work) l, tt))

    pub stage-call : (c : Call) → work_words_count ≤ length c.work → T (known_class c.class) → (r : Tested)
        → test_stage N (class_of c.class) c.rec s.store ≡ value r → test_call netlist c.class c.rec s.store c.work ≡ value r
    unfolding test_call
    stage-call c l k r q =
        let p = →reached netlist c.class s.store c.work N (record { lent = call-lent c l; is_legal = e; known = k }) in
        rw p q

    other-refused : (c : Call) → work_words_count ≤ length c.work → T (not (known_class c.class))
        → test_answer netlist c.class c.rec s.store c.work ≡ refused 83
    unfolding test_call test_answer
    other-refused c l k = rw (other-class netlist c.class s.store c.work N (call-lent c l) e k) refl

    -- One more call keeps it
    step : (c : Call) (a : Answer Tested) → test_call netlist c.class c.rec s.store c.work ≡ a
        → HoldsTests N (demand.with_test a (test_in N c) s.taken) (after a s.store store_left)
    step c (refused n) q = x
    step c (value r) q = stage-holding N w s.taken s.store x (class_of c.class) c.rec r (call-stage c.class c.rec s.store c.work r q)

    pub holds-next : (c : Call) → Holds N (next netlist N s c)
    unfolding test_store
    holds-next c = step c (test_call netlist c.class c.rec s.store c.work) refl

    totals-gives : totals_call netlist s.store ≡ value (by_edge (λ d. size (store_runs s.store d)))
    unfolding totals_call
    totals-gives =
        let l : checks (store_rule s.store ∷ []) ≡ value tt =
        →checks (store_rule s.store ∷ []) (rw (holding-length N s.store (detected_at N s.taken) x.holding) tt, tt) in
        let p : checks (store_rules (path_total N) s.store) ≡ value tt =
        →checks (store_rules (path_total N) s.store) (holding-passes N s.store (detected_at N s.taken) x.holding) in
        rw (l, e) (rw p refl)

    taken→ : (c : Call) → Taken netlist s c → NoRefusal N s.taken c
    taken→ c k =
        let h = call-reached c.class c.rec s.store c.work k.tested k.answer in
        record {
          memory = leb→le work_words_count (length c.work) h.lent.1.0;
          known = h.known;
          test = stage→ N w s.taken s.store x (class_of c.class) c.rec k.tested (call-stage c.class c.rec s.store c.work k.tested k.answer);
        }

    →taken : (c : Call) → NoRefusal N s.taken c → Taken netlist s c
    →taken c n = record {
      tested = tested N (tests_taken_of s.store) (runs_by_edge s.store) (test_in N c);
      answer = stage-call c n.memory n.known _ (→stage N w s.taken s.store x (class_of c.class) c.rec n.test);
    }

    returned-true : (c : Call) (r : FaultCounts) → test_answer netlist c.class c.rec s.store c.work ≡ value r
        → (d : Edge) → Returned N s.taken (test_in N c) d r
    unfolding test_answer
    returned-true c r k d =
        let p = steps (test_call netlist c.class c.rec s.store c.work) (λ t. value t.returned) k in
        subst (Returned N s.taken (test_in N c) d) (value_inj p.second)
        (stage-returned N w s.taken s.store x (class_of c.class) c.rec p.got (call-stage c.class c.rec s.store c.work p.got p.first) d)

    store_true : StoreTrue netlist N s
    store_true = record {
      holds_fault = λ f v. holds-fault N w s.taken f (store_runs s.store f.edge) (runs-true N w s.taken s.store x f.edge) v;
      holds_no_other = runs-true N w s.taken s.store x;
      tests_true = x.counted;
      sums = by_edge (λ d. size (store_runs s.store d));
      totals_gives = totals-gives;
      totals_true = λ d. as_count_of (sym (of_edge-by_edge (λ g. size (store_runs s.store g)) d)) (sizes-true N w s.taken s.store x d);
      taken_exactly = λ c. (taken→ c, →taken c);
      returned_true = returned-true;
      other_class = other-refused;
    }

  pub holds_after : (calls : List Call) (s : State) → Holds N s → Holds N (after_calls netlist N s calls)
  unfolding after_calls
  holds_after [] s x = x
  holds_after (c ∷ cs) s x = holds_after cs (next netlist N s c) (holds-next s x c)

  -- The part of demand 3 on every list
  pub after-every-list : (calls : List Call) → StoreTrue netlist N (after_calls netlist N start calls)
  after-every-list calls = store_true (after_calls netlist N start calls) (holds_after calls start (holds-start N))
