-- The place Work, once its rules pass: what it comes to, and that it leaves a store that no rule refuses.
use Rattle.model.proofs.Prelude.{ℕ, ◌≤◌, ◌<◌, suc, ◌≡◌, ◌∙◌, ap, refl, sym, subst, List, ◌∷◌, length, leb, eqb, leb→le, ltb→lt, le→leb, arith}
use Rattle.model.specs.Base.{Answer, refused, value, Rule, checks, after}
use Rattle.model.specs.Netlist.{Netlist, path_total}
use Rattle.model.specs.Path.{Edge, rising, falling}
use Rattle.model.specs.Detect.{Test}
use Rattle.model.specs.Runs.{Run, runs_among, in_runs}
use Rattle.model.specs.Store.{max_runs, max_tests, tests_taken_of, run_count, both_edges, store_of, store_runs, store_rules, runs_by_edge}
use Rattle.model.specs.Calls.{tests_rule, work_rules, Tested, store_left, tested, runs_then_of}
use Rattle.model.proofs.BoolLaws.{or_left}
use Rattle.model.proofs.AnswerLaws.{AllPass, checks→, →checks, then-first, then-second, value_inj}
use Rattle.model.proofs.HoldingLaws.{Sets, Holding, with_test, at_edge, runs_then, holding-own, holding-length, holding-passes}
use Rattle.store_coverage.specs.Stage.{MemoryReady, store_after, work_stage}

-- the numbers in a store's runs
abbrev own_sets : List ℕ → Sets
own_sets ws e = in_runs (store_runs ws e)

module _ (N : Netlist) (t : Test) (ws : List ℕ) {d : Tested} (q : work_stage N t ws ≡ value d) where
  abbrev works : List Rule
  works = tests_rule ws ∷ work_rules N (runs_by_edge ws) t

  pub work-passes : AllPass (tests_rule ws ∷ work_rules N (runs_by_edge ws) t)
  unfolding work_stage
  work-passes = checks→ works (then-first (checks works) (value (tested N (tests_taken_of ws) (runs_by_edge ws) t)) q)

  pub work-result : tested N (tests_taken_of ws) (runs_by_edge ws) t ≡ d
  unfolding work_stage
  work-result = value_inj (then-second (checks works) (value (tested N (tests_taken_of ws) (runs_by_edge ws) t)) q)

  few-tests : tests_taken_of ws < max_tests
  few-tests = ltb→lt (tests_taken_of ws) max_tests work-passes.0

  one_more : d.tests ≡ suc (tests_taken_of ws)
  unfolding tested
  one_more = ap (λ (r : Tested). r.tests) (sym work-result)

  pub then-few : (e : Edge) → length (runs_then_of N (runs_by_edge ws) t e) ≤ max_runs
  then-few e =
      leb→le (length (runs_then_of N (runs_by_edge ws) t e)) max_runs (at_edge (λ d. leb (length (runs_then_of N (runs_by_edge ws) t d)) max_runs) work-passes.1.1.0 e)

  module _ {work : List ℕ} (m : MemoryReady N ws work) where
    then_runs : (e : Edge) → runs_then_of N (runs_by_edge ws) t e ≡ runs_among (with_test N t (own_sets ws) e) (path_total N)
    then_runs e =
        runs_then N ws (own_sets ws) (holding-own N ws m.store_length (checks→ (store_rules (path_total N) ws) (record { got = tt; is = m.sound }))) t e

    holds_then : Holding N (store_left d) (with_test N t (own_sets ws))
    unfolding tested store_of
    holds_then = record {
      is = ap (λ (r : Tested). store_of d.tests r.runs) (sym work-result)
          ∙ ap (store_of d.tests) (λ i. record { on_rising = then_runs rising i; on_falling = then_runs falling i });
      fits = λ e. subst (λ (rs : List Run). length rs ≤ max_runs) (then_runs e) (then-few e);
      few_tests = omega (arith, one_more, few-tests);
      of_tests = or_left (leb 1 d.tests) (both_edges (λ e. eqb (run_count (store_left d) e) 0)) (le→leb 1 d.tests (omega (arith, one_more)));
    }

    pub work-memory : {work' : List ℕ} → length work' ≡ length work → MemoryReady N (store_left d) work'
    work-memory same = record {
      store_length = holding-length N (store_left d) (with_test N t (own_sets ws)) holds_then;
      sound = →checks (store_rules (path_total N) (store_left d)) (holding-passes N (store_left d) (with_test N t (own_sets ws)) holds_then);
      work_length = omega (arith, m.work_length);
    }

-- refused or taken, the place Work leaves the memory ready for the next record
pub stage-memory : {N : Netlist} (t : Test) {ws work work' : List ℕ} → MemoryReady N ws work → length work' ≡ length work
    → MemoryReady N (store_after (work_stage N t ws) ws) work'
unfolding store_after
stage-memory {N = N} t {ws = ws} {work' = work'} m l = go (work_stage N t ws) refl
  where
    go : (x : Answer Tested) → work_stage N t ws ≡ x → MemoryReady N (after x ws store_left) work'
    go (refused n) e = record { store_length = m.store_length; sound = m.sound; work_length = omega (arith, m.work_length) }
    go (value d) e = work-memory N t ws e m l
