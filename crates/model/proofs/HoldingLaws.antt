-- A store that holds exactly the numbers of a set, and one test on it.
use Rattle.model.proofs.Prelude.{ℕ, ◌≤◌, ◌<◌, suc, ◌≡◌, ◌∙◌, ap, refl, sym, subst, Bool, false, ◌&&◌, not, ◌||◌, List, ◌∷◌, ◌++◌, length, leb}
use Rattle.model.proofs.Prelude.{T, eqb, leb→le, ltb→lt, le→leb, lt→ltb, arith}
use lib.Dec.{lit≤}
use Rattle.model.specs.Base.{refused, value, ◌then◌, Rule, checks}
use Rattle.model.specs.Netlist.{Netlist, path_total}
use Rattle.model.specs.Path.{Edge, rising, falling}
use Rattle.model.specs.Detect.{Class, Test, detects_number}
use Rattle.model.specs.Runs.{Run, runs_among, in_runs, how_many, working_runs, size, separated_runs_of}
use Rattle.model.specs.Read.{test_rules, test_of}
use Rattle.model.specs.Store.{ByEdge, by_edge, of_edge, store_words_count, max_runs, max_tests, empty_store, store_runs, runs_by_edge, store_of, both_edges, store_rules, run_count, tests_taken_of}
use Rattle.model.specs.Store.{runs_of_tests_of, first_word}
use Rattle.model.specs.Calls.{Tested, store_left, tested, test_stage, stage_rules, tests_rule, work_rules, held_then_of, new_then_of, runs_then_of}
use Rattle.model.proofs.BoolLaws.{and_left, and_right, or_left}
use Rattle.model.proofs.AnswerLaws.{AllPass, checks→, →checks, checks-both, then-first, then-second, value_inj, pass_first, pass_second, pass_both}
use Rattle.model.proofs.RunLaws.{runs-separated, runs-test, runs_same, runs_none, separated→, →separated, runs-of_runs}
use Rattle.model.proofs.RunSizeLaws.{runs-size, how_many-same}
use Rattle.model.proofs.StoreLaws.{runs-store, length-store, length-runs_at, store-passes, store-runs, empty-store, at_both}

-- for each edge the numbers of a set
abbrev pub Sets : Type 0
Sets = Edge → ℕ → Bool

abbrev pub runs_for : Netlist → Sets → ByEdge (List Run)
runs_for N D = by_edge (λ e. runs_among (D e) (path_total N))

pub record Holding (N : Netlist) (ws : List ℕ) (D : Sets) : Type 0 where
  pub is : ws ≡ store_of (tests_taken_of ws) (runs_for N D)
  pub fits : (e : Edge) → length (runs_among (D e) (path_total N)) ≤ max_runs
  pub few_tests : tests_taken_of ws ≤ max_tests
  pub of_tests : T (runs_of_tests_of ws)

-- with a test's numbers too
abbrev pub with_test : Netlist → Test → Sets → Sets
with_test N t D e k = detects_number N t e k || D e k

of_edge-runs_for : (N : Netlist) (D : Sets) (e : Edge) → of_edge (runs_for N D) e ≡ runs_among (D e) (path_total N)
of_edge-runs_for N D rising = refl
of_edge-runs_for N D falling = refl

pub of_edge-by_edge : {A : Type 0} (f : Edge → A) (e : Edge) → of_edge (by_edge f) e ≡ f e
of_edge-by_edge f rising = refl
of_edge-by_edge f falling = refl

pub holding-empty : (N : Netlist) → Holding N empty_store (λ e k. false)
holding-empty N = record {
  is = empty-store ∙ ap {B = List ℕ} (λ (rs : List Run). store_of 0 (by_edge (λ e. rs))) (sym (runs_none (path_total N)));
  fits = λ e. rw (runs_none (path_total N)) (omega arith);
  few_tests = lit≤ tt;
  of_tests = tt;
}

pub holding-same : (N : Netlist) (ws : List ℕ) (D D' : Sets) → ((e : Edge) (k : ℕ) → D e k ≡ D' e k) → Holding N ws D → Holding N ws D'
holding-same N ws D D' h x = subst (λ (E : Sets). Holding N ws E) (λ i e k. h e k i) x

module _ (N : Netlist) (ws : List ℕ) (D : Sets) (x : Holding N ws D) where
  fits-of_edge : (e : Edge) → length (of_edge (runs_for N D) e) ≤ max_runs
  fits-of_edge e = rw (of_edge-runs_for N D e) (x.fits e)

  pub holding-runs : (e : Edge) → store_runs ws e ≡ runs_among (D e) (path_total N)
  holding-runs e = ap (λ s. store_runs s e) x.is ∙ runs-store (tests_taken_of ws) (runs_for N D) fits-of_edge e ∙ of_edge-runs_for N D e

  pub holding-length : length ws ≡ store_words_count
  holding-length = ap length x.is ∙ length-store (tests_taken_of ws) (runs_for N D) fits-of_edge

  pub holding-passes : AllPass (store_rules (path_total N) ws)
  holding-passes =
      subst (λ s. AllPass (store_rules (path_total N) s)) (sym x.is)
      (store-passes (tests_taken_of ws) (runs_for N D) fits-of_edge (path_total N) x.few_tests (subst (λ s. T (runs_of_tests_of s)) x.is x.of_tests)
      (λ e. rw (of_edge-runs_for N D e) (→separated (path_total N) 1 _ (runs-separated (D e) (path_total N)))))

  pub holding-size : (e : Edge) → size (store_runs ws e) ≡ how_many (D e) (path_total N)
  holding-size e = ap size (holding-runs e) ∙ runs-size (D e) (path_total N)

  -- a number in the set, by the store's runs
  in_held : (e : Edge) (k : ℕ) → 1 ≤ k → k ≤ path_total N → in_runs (of_edge (runs_by_edge ws) e) k ≡ D e k
  in_held e k l h = ap (λ rs. in_runs rs k) (of_edge-by_edge (store_runs ws) e ∙ holding-runs e) ∙ runs-test (D e) (path_total N) k l h

  pub runs_then : (t : Test) (e : Edge) → runs_then_of N (runs_by_edge ws) t e ≡ runs_among (with_test N t D e) (path_total N)
  runs_then t e =
      runs_same (held_then_of N (runs_by_edge ws) t e) (with_test N t D e) (path_total N) (λ k l h. ap (λ b. detects_number N t e k || b) (in_held e k l h))

  pub held_then : (t : Test) (e : Edge) → how_many (held_then_of N (runs_by_edge ws) t e) (path_total N) ≡ how_many (with_test N t D e) (path_total N)
  held_then t e =
      how_many-same (held_then_of N (runs_by_edge ws) t e) (with_test N t D e) (path_total N) (λ k l h. ap (λ b. detects_number N t e k || b) (in_held e k l h))

  pub new_then : (t : Test) (e : Edge)
      → how_many (new_then_of N (runs_by_edge ws) t e) (path_total N) ≡ how_many (λ k. detects_number N t e k && not (D e k)) (path_total N)
  new_then t e =
      how_many-same (new_then_of N (runs_by_edge ws) t e) (λ k. detects_number N t e k && not (D e k)) (path_total N)
      (λ k l h. ap (λ b. detects_number N t e k && not b) (in_held e k l h))

pub at_edge : (f : Edge → Bool) → T (both_edges f) → (e : Edge) → T (f e)
at_edge f t rising = and_left (f rising) (f falling) t
at_edge f t falling = and_right (f rising) (f falling) t

-- The places Test, Store and Work: all rules pass, exactly when there is a result
pub stage-passes : (N : Netlist) (c : Class) (rec ws : List ℕ) (r : Tested) → test_stage N c rec ws ≡ value r → AllPass (stage_rules N c rec ws)
unfolding test_stage
stage-passes N c rec ws r e =
    checks→ (stage_rules N c rec ws) (then-first (checks (stage_rules N c rec ws)) (value (tested N (tests_taken_of ws) (runs_by_edge ws) (test_of N c rec))) e)

pub stage-result : (N : Netlist) (c : Class) (rec ws : List ℕ) (r : Tested) → test_stage N c rec ws ≡ value r
    → tested N (tests_taken_of ws) (runs_by_edge ws) (test_of N c rec) ≡ r
unfolding test_stage
stage-result N c rec ws r e = value_inj (then-second (checks (stage_rules N c rec ws)) (value (tested N (tests_taken_of ws) (runs_by_edge ws) (test_of N c rec))) e)

pub stage-taken : (N : Netlist) (c : Class) (rec ws : List ℕ) → AllPass (stage_rules N c rec ws)
    → test_stage N c rec ws ≡ value (tested N (tests_taken_of ws) (runs_by_edge ws) (test_of N c rec))
unfolding test_stage
stage-taken N c rec ws p = rw (→checks (stage_rules N c rec ws) p) refl

-- what the rules of the store refuse, the stage refuses, however many tests are taken: 86 comes after 42
pub store-refused : (N : Netlist) (c : Class) (rec ws : List ℕ) (n : ℕ) → checks (test_rules N rec) ≡ value tt
    → checks (store_rules (path_total N) ws) ≡ refused n → test_stage N c rec ws ≡ refused n
unfolding test_stage
store-refused N c rec ws n p q =
    let rest : List Rule = tests_rule ws ∷ work_rules N (runs_by_edge ws) (test_of N c rec) in
    let stores : checks (store_rules (path_total N) ws ++ rest) ≡ refused n = checks-both (store_rules (path_total N) ws) rest ∙ ap (λ a. a then checks rest) q in
    let whole : checks (stage_rules N c rec ws) ≡ refused n =
    checks-both (test_rules N rec) (store_rules (path_total N) ws ++ rest) ∙ ap (λ a. a then checks (store_rules (path_total N) ws ++ rest)) p ∙ stores in
    ap (λ a. a then value (tested N (tests_taken_of ws) (runs_by_edge ws) (test_of N c rec))) whole

module _ (N : Netlist) (c : Class) (rec ws : List ℕ) (D : Sets) (x : Holding N ws D) where
  abbrev works : List Rule
  works = work_rules N (runs_by_edge ws) (test_of N c rec)

  pub test-part : AllPass (stage_rules N c rec ws) → AllPass (test_rules N rec)
  test-part p = pass_first (test_rules N rec) (store_rules (path_total N) ws ++ (tests_rule ws ∷ works)) p

  after_store : AllPass (stage_rules N c rec ws) → AllPass (tests_rule ws ∷ works)
  after_store p =
      pass_second (store_rules (path_total N) ws) (tests_rule ws ∷ works) (pass_second (test_rules N rec) (store_rules (path_total N) ws ++ (tests_rule ws ∷ works)) p)

  work-part : AllPass (stage_rules N c rec ws) → AllPass works
  work-part p = (after_store p).1

  pub tests-few : AllPass (stage_rules N c rec ws) → tests_taken_of ws < max_tests
  tests-few p = ltb→lt (tests_taken_of ws) max_tests (after_store p).0

  -- the rules of Work, over the sets
  pub work-few : AllPass (stage_rules N c rec ws) → (e : Edge) → working_runs N (test_of N c rec) e ≤ max_runs
  work-few p e =
      leb→le _ _ (at_edge (λ d. leb (working_runs N (test_of N c rec) d) max_runs)
      (work-part p).0 e)

  pub work-room : AllPass (stage_rules N c rec ws) → (e : Edge) → length (runs_among (with_test N (test_of N c rec) D e) (path_total N)) ≤ max_runs
  work-room p e =
      subst (λ rs. length rs ≤ max_runs) (runs_then N ws D x (test_of N c rec) e)
      (leb→le _ _ (at_edge (λ d. leb (length (runs_then_of N (runs_by_edge ws) (test_of N c rec) d)) max_runs)
      (work-part p).1.0 e))

  pub stage-rules : AllPass (test_rules N rec) → tests_taken_of ws < max_tests → ((e : Edge) → working_runs N (test_of N c rec) e ≤ max_runs)
      → ((e : Edge) → length (runs_among (with_test N (test_of N c rec) D e) (path_total N)) ≤ max_runs) → AllPass (stage_rules N c rec ws)
  stage-rules p few f g =
      let t : Test = test_of N c rec in
      let working = at_both (λ d. leb (working_runs N t d) max_runs) (λ e. le→leb _ _ (f e)) in
      let held = at_both (λ d. leb (length (runs_then_of N (runs_by_edge ws) t d)) max_runs)
      (λ e. le→leb _ _ (subst (λ rs. length rs ≤ max_runs) (sym (runs_then N ws D x t e)) (g e))) in
      pass_both (test_rules N rec) (store_rules (path_total N) ws ++ (tests_rule ws ∷ works)) p
      (pass_both (store_rules (path_total N) ws) (tests_rule ws ∷ works) (holding-passes N ws D x) (lt→ltb (tests_taken_of ws) max_tests few, (working, (held, tt))))

  -- One test: it is counted
  pub stage-tests : (r : Tested) → test_stage N c rec ws ≡ value r → r.tests ≡ suc (tests_taken_of ws)
  unfolding tested
  stage-tests r e = ap (λ (q : Tested). q.tests) (sym (stage-result N c rec ws r e))

  -- and the store then holds its numbers too
  pub holding-next : (r : Tested) → test_stage N c rec ws ≡ value r → Holding N (store_left r) (with_test N (test_of N c rec) D)
  unfolding tested store_of
  holding-next r e = record {
    is = ap (λ (q : Tested). store_of r.tests q.runs) (sym (stage-result N c rec ws r e))
        ∙ ap (store_of r.tests) (λ i. record { on_rising = runs_then N ws D x (test_of N c rec) rising i; on_falling = runs_then N ws D x (test_of N c rec) falling i });
    fits = work-room (stage-passes N c rec ws r e);
    few_tests = omega (arith, stage-tests r e, tests-few (stage-passes N c rec ws r e));
    of_tests = or_left (leb 1 r.tests) (both_edges (λ d. eqb (run_count (store_left r) d) 0)) (le→leb 1 r.tests (omega (arith, stage-tests r e)));
  }

  pub returned-new : (r : Tested) → test_stage N c rec ws ≡ value r → (e : Edge)
      → of_edge r.returned.new_faults e ≡ how_many (λ k. detects_number N (test_of N c rec) e k && not (D e k)) (path_total N)
  unfolding tested
  returned-new r q e =
      ap (λ (y : Tested). of_edge y.returned.new_faults e) (sym (stage-result N c rec ws r q))
      ∙ of_edge-by_edge (λ d. how_many (new_then_of N (runs_by_edge ws) (test_of N c rec) d) (path_total N)) e
      ∙ new_then N ws D x (test_of N c rec) e

  pub returned-held : (r : Tested) → test_stage N c rec ws ≡ value r → (e : Edge)
      → of_edge r.returned.held_faults e ≡ how_many (with_test N (test_of N c rec) D e) (path_total N)
  unfolding tested
  returned-held r q e =
      ap (λ (y : Tested). of_edge y.returned.held_faults e) (sym (stage-result N c rec ws r q))
      ∙ of_edge-by_edge (λ d. how_many (held_then_of N (runs_by_edge ws) (test_of N c rec) d) (path_total N)) e
      ∙ held_then N ws D x (test_of N c rec) e

-- A store of its length that passes the rules holds exactly the numbers in its runs
module _ (N : Netlist) (ws : List ℕ) (l : length ws ≡ store_words_count) (p : AllPass (store_rules (path_total N) ws)) where
  own_runs : (e : Edge) → runs_among (in_runs (store_runs ws e)) (path_total N) ≡ store_runs ws e
  own_runs e =
      runs-of_runs (path_total N) (store_runs ws e)
      (separated→ (path_total N) 1 (store_runs ws e) (at_edge (λ d. separated_runs_of (path_total N) 1 (store_runs ws d)) p.1.1.0 e))

  few-held : (e : Edge) → length (store_runs ws e) ≤ max_runs
  unfolding store_runs
  few-held e = rw (length-runs_at (run_count ws e) ws (first_word e)) (leb→le _ _ (at_edge (λ d. leb (run_count ws d) max_runs) p.0 e))

  pub holding-own : Holding N ws (λ e. in_runs (store_runs ws e))
  holding-own = record {
    is = sym (store-runs (path_total N) ws l p)
        ∙ ap (store_of (tests_taken_of ws)) (λ i. record { on_rising = sym (own_runs rising) i; on_falling = sym (own_runs falling) i });
    fits = λ e. rw (own_runs e) (few-held e);
    few_tests = leb→le (tests_taken_of ws) max_tests p.1.0;
    of_tests = p.1.1.1.0;
  }

  -- A test leaves such a store
  module _ (c : Class) (rec : List ℕ) (r : Tested) (q : test_stage N c rec ws ≡ value r) where
    pub stage-length : length (store_left r) ≡ store_words_count
    stage-length = holding-length N (store_left r) _ (holding-next N c rec ws (λ e. in_runs (store_runs ws e)) holding-own r q)

    pub stage-sound : AllPass (store_rules (path_total N) (store_left r))
    stage-sound = holding-passes N (store_left r) _ (holding-next N c rec ws (λ e. in_runs (store_runs ws e)) holding-own r q)
