-- What was made of both edges, as the place Work.
use Rattle.model.proofs.Prelude.{ℕ, ◌≤◌, ◌<◌, ◌+◌, ◌*◌, suc, ◌≡◌, ◌∙◌, ap, refl, sym, ap₂, true, Bool, false, not, List, [], ◌∷◌, length, set, ltb}
use Rattle.model.proofs.Prelude.{ltb→lt, arith, rules, not-true, not-false}
use Rattle.model.specs.Base.{Answer, refused, value, ◌then◌, check, checks, passes, after}
use Rattle.model.specs.Netlist.{Netlist, path_total}
use Rattle.model.specs.Path.{Edge, rising, falling}
use Rattle.model.specs.Detect.{Test}
use Rattle.model.specs.Runs.{Run}
use Rattle.model.specs.Store.{ByEdge, by_edge, of_edge, max_runs, max_tests, store_words_count, tests_word, tests_taken_of, store_of, store_runs, runs_by_edge}
use Rattle.model.specs.Calls.{work_words_count, work_rules, Tested, store_left, tested, runs_then_of}
use Rattle.model.specs.Refusals.{refusal_number_of}
use Rattle.model.specs.declared.Refusal.{Refusal}
use Rattle.model.specs.declared.Refusal.TheVariants as why
use Rattle.model.proofs.BoolLaws.{true→T}
use Rattle.model.proofs.StoreLaws.{tests-store, length-store}
use Rattle.store_writing.specs.Writing.{changed, with_runs, StoreHas, Writable, Rewritten}
use Rattle.store_writing.specs.declared.inner.Change.{Change}
use Rattle.store_writing.proofs.EdgeWriteCases.{sound-has}
use Rattle.store_coverage.specs.Covers.{fits_of}
use Rattle.store_coverage.specs.Both.{CoversBoth}
use Rattle.store_coverage.specs.Stage.{MemoryReady, BothMade, SomeBothMade, refused_after, store_after, work_stage, StageIs}
use Rattle.store_coverage.specs.declared.inner.edges.Over.{Over}
use Rattle.store_coverage.specs.declared.inner.edges.Over.TheVariants as over
use Rattle.store_coverage.proofs.WorkMemory.{then-few}
use Rattle.std.specs.Prelude.{Result, Ok, Err}
use Rattle.model.specs.Returned.{answer_of}

store-has : {N : Netlist} {ws work : List ℕ} → MemoryReady N ws work → StoreHas ws (runs_by_edge ws)
store-has {N = N} {ws = ws} m = sound-has (path_total N) ws m.store_length m.sound

-- a counted test is one more in the store's words
counted : (n : ℕ) (s : ByEdge (List Run)) → set (store_of n s) tests_word (tests_taken_of (store_of n s) + 1) ≡ store_of (suc n) s
unfolding store_of
counted n s = let e : n + 1 ≡ suc n = omega arith in ap (λ (k : ℕ). store_of k s) e

module _ {N : Netlist} {t : Test} {ws work work' : List ℕ} (m : MemoryReady N ws work) (same : length work' ≡ length work) {b : Result (Change × Change) Over}
    (x : CoversBoth N t ws work work' b) where
  -- 86, whatever was made
  full-stage : ltb (tests_taken_of ws) max_tests ≡ false → StageIs (work_stage N t ws) ws ws work work' (Err why.TestsFull)
  unfolding work_stage store_after
  full-stage e = record { answer = rw e refl; store = rw e refl; same_length_of = same; past_work = x.kept work_words_count (omega arith) }

  -- 86, or what was made does not fit
  refused-stage : (w : Refusal) → fits_of b ≡ refused (refusal_number_of w) → (r : Result (Unit {0}) Refusal) → answer_of r ≡ refused_after ws w
      → StageIs (work_stage N t ws) ws ws work work' r
  unfolding work_stage store_after
  refused-stage w q r er =
      let e : checks (work_rules N (runs_by_edge ws) t) ≡ refused (refusal_number_of w) = sym x.answers ∙ q in
      let done : Tested = tested N (tests_taken_of ws) (runs_by_edge ws) t in
      record {
        answer = er ∙ either (ltb (tests_taken_of ws) max_tests) done (checks (work_rules N (runs_by_edge ws) t)) (refusal_number_of w) e;
        store = kept_store (ltb (tests_taken_of ws) max_tests) done (checks (work_rules N (runs_by_edge ws) t)) (refusal_number_of w) e;
        same_length_of = same;
        past_work = x.kept work_words_count (omega arith);
      }
    where
      either : (a : Bool) (d : Tested) (y : Answer (Unit {0})) (k : ℕ) → y ≡ refused k
          → (checks ((86, a) ∷ []) then refused k) ≡ passes (check 86 a then y then value d)
      either true d y k e = rw e refl
      either false d y k e = refl

      kept_store : (a : Bool) (d : Tested) (y : Answer (Unit {0})) (k : ℕ) → y ≡ refused k → ws ≡ after (check 86 a then y then value d) ws store_left
      kept_store true d y k e = rw e refl
      kept_store false d y k e = refl

  module _ (more : ltb (tests_taken_of ws) max_tests ≡ true) where
    module _ {r f : Change} (fits : b ≡ Ok (r, f)) where
      passing : checks (work_rules N (runs_by_edge ws) t) ≡ value tt
      passing = sym x.answers ∙ ap fits_of fits

      made : work_stage N t ws ≡ value (tested N (tests_taken_of ws) (runs_by_edge ws) t)
      unfolding work_stage
      made = rw (more, passing) refl

      few-rising : length (changed r work' (2 * max_runs) (store_runs ws rising)) ≤ max_runs
      few-rising = omega (arith, then-few N t ws made rising, ap (length {A = Run}) (x.rising_runs_of r f fits))

      first-writable : Writable work' (2 * max_runs) r rising ws
      first-writable = record { runs = runs_by_edge ws; has = store-has m; within = x.rising_within r f fits; few = few-rising; room = omega (arith, m.work_length) }

      module _ {ws₁ : List ℕ} (w₁ : Rewritten work' (2 * max_runs) r rising ws ws₁) where
        runs₁ : ByEdge (List Run)
        runs₁ = with_runs rising (changed r work' (2 * max_runs) (store_runs ws rising)) (runs_by_edge ws)

        same₁ : tests_taken_of ws₁ ≡ tests_taken_of ws
        unfolding runs₁
        same₁ = ap tests_taken_of (w₁ (runs_by_edge ws) (store-has m)) ∙ tests-store (tests_taken_of ws) runs₁

        has₁ : StoreHas ws₁ runs₁
        unfolding runs₁
        has₁ = record { is = w₁ (runs_by_edge ws) (store-has m) ∙ ap (λ (n : ℕ). store_of n runs₁) (sym same₁); few = few₁ }
          where
            few₁ : (e : Edge) → length (of_edge (with_runs rising (changed r work' (2 * max_runs) (store_runs ws rising)) (runs_by_edge ws)) e) ≤ max_runs
            few₁ rising = few-rising
            few₁ falling = (store-has m).few falling

        second-writable : Writable work' (3 * max_runs) f falling ws₁
        unfolding runs₁
        second-writable = record {
          runs = runs₁;
          has = has₁;
          within = x.falling_within r f fits;
          few = omega (arith, then-few N t ws made falling, ap (length {A = Run}) (x.falling_runs_of r f fits));
          room = omega (arith, m.work_length);
        }

        module _ {ws₂ : List ℕ} (w₂ : Rewritten work' (3 * max_runs) f falling ws₁ ws₂) where
          abbrev runs_now : ByEdge (List Run)
          runs_now = by_edge (runs_then_of N (runs_by_edge ws) t)

          left₂ : ws₂ ≡ store_of (tests_taken_of ws) runs_now
          unfolding runs₁
          left₂ =
              w₂ runs₁ has₁ ∙ ap (λ (n : ℕ). store_of n (with_runs falling (changed f work' (3 * max_runs) (of_edge runs₁ falling)) runs₁)) same₁
              ∙ ap₂ (λ (u v : List Run). store_of (tests_taken_of ws) (record { on_rising = u; on_falling = v })) (x.rising_runs_of r f fits) (x.falling_runs_of r f fits)

          few-then : (e : Edge) → length (of_edge runs_now e) ≤ max_runs
          few-then rising = then-few N t ws made rising
          few-then falling = then-few N t ws made falling

          long₂ : length ws₂ ≡ store_words_count
          long₂ = ap (length {A = ℕ}) left₂ ∙ length-store (tests_taken_of ws) runs_now few-then

          tests₂ : tests_taken_of ws₂ ≡ tests_taken_of ws
          tests₂ = ap tests_taken_of left₂ ∙ tests-store (tests_taken_of ws) runs_now

          room₂ : tests_taken_of ws₂ < max_tests
          room₂ = omega (arith, tests₂, ltb→lt (tests_taken_of ws) max_tests (true→T (ltb (tests_taken_of ws) max_tests) more))

          taken-stage : {ws₃ : List ℕ} → ws₃ ≡ set ws₂ tests_word (tests_taken_of ws₂ + 1) → StageIs (work_stage N t ws) ws ws₃ work work' (Ok tt)
          unfolding work_stage store_after tested
          taken-stage {ws₃ = ws₃} w₃ =
              let c : checks (work_rules N (runs_by_edge ws) t) ≡ value tt = passing in
              let left : ws₃ ≡ store_of (suc (tests_taken_of ws)) runs_now =
              w₃ ∙ ap (λ (y : List ℕ). set y tests_word (tests_taken_of y + 1)) left₂ ∙ counted (tests_taken_of ws) runs_now in
              record { answer = rw (more, c) refl; store = left ∙ rw (more, c) refl; same_length_of = same; past_work = x.kept work_words_count (omega arith) }

one_left : (ws : List ℕ) (a : Bool) → a ≡ ltb (tests_taken_of ws) max_tests → not a ≡ false → ltb (tests_taken_of ws) max_tests ≡ true
one_left ws a ea n = sym ea ∙ not-false a n

-- The writes, by what was made of both edges, and what they leave for every test that it was made for
module _ {b : Result (Change × Change) Over} {ws work : List ℕ} where
  pub write_long : SomeBothMade b ws work → length ws ≡ store_words_count
  write_long h = h.made.memory.store_length

  pub write_over : {r : (Result (Unit {0}) Refusal)} {o : Over} → b ≡ Err o → o ≡ over.Work → answer_of r ≡ refused_after ws why.WorkingRuns
      → (N : Netlist) (t : Test) (found : List ℕ) → BothMade N t ws found work b → StageIs (work_stage N t ws) ws ws found work r
  write_over e i er N t found x = refused-stage x.memory x.same_length_of x.covers why.WorkingRuns (ap fits_of (e ∙ ap Err i)) _ er

  pub write_full : {r : (Result (Unit {0}) Refusal)} {o : Over} → b ≡ Err o → o ≡ over.Store → answer_of r ≡ refused_after ws why.StoreRuns
      → (N : Netlist) (t : Test) (found : List ℕ) → BothMade N t ws found work b → StageIs (work_stage N t ws) ws ws found work r
  write_full e i er N t found x = refused-stage x.memory x.same_length_of x.covers why.StoreRuns (ap fits_of (e ∙ ap Err i)) _ er

  module _ {a : Bool} (ea : a ≡ ltb (tests_taken_of ws) max_tests) where
    pub write_none : not a ≡ true → (N : Netlist) (t : Test) (found : List ℕ) → BothMade N t ws found work b
        → StageIs (work_stage N t ws) ws ws found work (Err why.TestsFull)
    write_none n N t found x = full-stage x.memory x.same_length_of x.covers (sym ea ∙ not-true a n)

    module _ (n : not a ≡ false) where
      module _ {r f : Change} (fits : b ≡ Ok (r, f)) where
        pub write_first : SomeBothMade b ws work → Writable work (2 * max_runs) r rising ws
        write_first h = first-writable h.made.memory h.made.same_length_of h.made.covers (one_left ws a ea n) fits

        module _ {ws₁ : List ℕ} (w₁ : Rewritten work (2 * max_runs) r rising ws ws₁) where
          pub write_next : SomeBothMade b ws work → Writable work (3 * max_runs) f falling ws₁
          write_next h = second-writable h.made.memory h.made.same_length_of h.made.covers (one_left ws a ea n) fits w₁

          module _ {ws₂ : List ℕ} (w₂ : Rewritten work (3 * max_runs) f falling ws₁ ws₂) where
            pub write_counts : SomeBothMade b ws work → (length ws₂ ≡ store_words_count) × (tests_taken_of ws₂ < max_tests)
            write_counts h =
                let k = h.made in
                (long₂ k.memory k.same_length_of k.covers (one_left ws a ea n) fits w₁ w₂, room₂ k.memory k.same_length_of k.covers (one_left ws a ea n) fits w₁ w₂)

            pub write_taken : {ws₃ : List ℕ} → ws₃ ≡ set ws₂ tests_word (tests_taken_of ws₂ + 1)
                → (N : Netlist) (t : Test) (found : List ℕ) → BothMade N t ws found work b → StageIs (work_stage N t ws) ws ws₃ found work (Ok tt)
            write_taken w₃ N t found x = taken-stage x.memory x.same_length_of x.covers (one_left ws a ea n) fits w₁ w₂ w₃

-- Why a test is refused that does not fit
module _ (ws : List ℕ) {a : Bool} (ea : a ≡ ltb (tests_taken_of ws) max_tests) (w : Refusal) where
  pub refuse_why : a ≡ true → answer_of (Err w) ≡ refused_after ws w
  refuse_why e = rw (sym ea ∙ e) refl

  pub refuse_full : a ≡ false → answer_of (Err why.TestsFull) ≡ refused_after ws w
  refuse_full e = rw (sym ea ∙ e) refl

pub ruleset refuse-cases = (refuse_why, refuse_full, rules)

pub ruleset write-cases = (write_long, write_none, write_over, write_full, write_first, write_next, write_taken, rules)
