-- The test call: what refuses it before the test stage is reached, the class among that, and the stage as the call.
use Rattle.model.proofs.Prelude.{ℕ, ◌≤◌, ◌<◌, ◌≡◌, ◌∙◌, ap, refl, sym, true, Bool, false, not, List, [], ◌∷◌, length, leb, eqb, arith, ne_eqb, eq-eqb}
use Rattle.model.proofs.Prelude.{not-true, not-false, le-leb, lt-leb}
use Rattle.model.specs.Base.{Answer, refused, value, ◌into◌, ◌then◌, checks}
use Rattle.model.specs.Netlist.{Netlist, path_total}
use Rattle.model.specs.Read.{within, read_netlist, class_of, class_rule}
use Rattle.model.specs.Store.{store_words_count}
use Rattle.model.specs.Calls.{work_words_count, store_rule, work_rule, before_test, test_stage, test_call, test_answer, test_store}
use Rattle.model.specs.Refusals.{refusal_number_of}
use Rattle.model.specs.declared.Refusal.{Refusal}
use Rattle.model.specs.declared.Refusal.TheVariants as why
use Rattle.model.proofs.AnswerLaws.{AllPass, not_refused, checks→, →checks, pass_first, pass_second, checks-both}
use Rattle.model.proofs.ReadLaws.{limits}
use Rattle.model.proofs.RefusalLaws.{refused-inj}
use Rattle.netlist.specs.Answers.{LegalLoad, LoadTrue}
use Rattle.netlist.specs.Tables.{CircuitTables}
use Rattle.netlist.specs.declared.inner.Shape.{Shape}
use Rattle.store_coverage.specs.Stage.{place_rules, store_after}
use Rattle.single_stage.specs.LegalStage.{LegalReady}
use Rattle.store_coverage.specs.TestCall.{returned_by, TestedIs}
use Rattle.single_call.specs.TestPromise.{CheckReady, TestTrue}
use Rattle.store_coverage.proofs.StageLaws.{stage-refused, passes-test, passes-store}
use Rattle.std.specs.Prelude.{Result, Ok, Err}
use Rattle.netlist.specs.declared.inner.LegalNetlist.{LegalNetlist}
use Rattle.store_coverage.specs.declared.TestCounts.{TestCounts}
use Rattle.model.specs.Returned.{answer_of}

-- ---- the class, before the places Test and Store

module _ (class inputs paths : ℕ) (rec ws : List ℕ) (k : Bool) (e : k ≡ within 1 2 class) where
  pub class-unknown : not k ≡ true → (N : Netlist) → inputs ≡ N.inputs → paths ≡ path_total N
      → refused (refusal_number_of why.UnknownClass) ≡ checks (class_rule class ∷ place_rules N rec ws)
  class-unknown h N i p = let q : within 1 2 class ≡ false = sym e ∙ not-true k h in rw q refl

  pub class-known : not k ≡ false → (c : Result (Unit {0}) Refusal)
      → ((N : Netlist) → inputs ≡ N.inputs → paths ≡ path_total N → answer_of c ≡ checks (place_rules N rec ws))
      → (N : Netlist) → inputs ≡ N.inputs → paths ≡ path_total N → answer_of c ≡ checks (class_rule class ∷ place_rules N rec ws)
  class-known h c made N i p = let q : within 1 2 class ≡ true = sym e ∙ not-false k h in made N i p ∙ rw q refl

-- ---- the test stage was not reached

module _ (netlist : List ℕ) (class : ℕ) (rec ws work : List ℕ) where
  not_reached_lem : (w : Refusal) → before_test netlist class ws work ≡ refused (refusal_number_of w) → TestTrue (Err w) netlist class rec ws ws work work
  unfolding test_answer test_store test_call
  not_reached_lem w e = record {
    answer = rw e refl;
    store = rw e refl;
    memory = record { same_length_of = refl; past_work = refl; not_reached = λ n q. refl };
  }

  pub no_store : (length ws ≡ store_words_count → ⊥) → TestTrue (Err why.StoreLength) netlist class rec ws ws work work
  no_store h =
      let e : eqb (length ws) store_words_count ≡ false = ne_eqb (length ws) store_words_count h in
      not_reached_lem why.StoreLength (rw e refl)

  module _ (l : length ws ≡ store_words_count) where
    long : eqb (length ws) store_words_count ≡ true
    long = eq-eqb (length ws) store_words_count l

    pub no-work : length work < work_words_count → TestTrue (Err why.WorkLength) netlist class rec ws ws work work
    no-work h =
        let e : leb work_words_count (length work) ≡ false = lt-leb work_words_count (length work) h in
        not_reached_lem why.WorkLength (rw (long, e) refl)

    module _ (k : work_words_count ≤ length work) where
      lent : checks (store_rule ws ∷ work_rule work ∷ []) ≡ value tt
      lent = let e : leb work_words_count (length work) ≡ true = le-leb work_words_count (length work) k in rw (long, e) refl

      module _ (counts positions : List ℕ) (a : Result LegalNetlist Refusal) (t : LoadTrue a netlist counts positions) where
        pub no-netlist : {w : Refusal} → a ≡ Err w → TestTrue (Err w) netlist class rec ws ws work work
        no-netlist {w = w} e = let r : read_netlist netlist ≡ refused (refusal_number_of w) = rw e at t in not_reached_lem w (rw (lent, r) refl)

        module _ {l0 : LegalNetlist} (e : a ≡ Ok l0) where
          here : LegalLoad netlist counts positions l0.shape l0.total
          here = rw e at t

          pub call-checks : CheckReady l0.shape.inputs ws l0.total
          call-checks =
              let m = limits netlist here.circuit here.tables.legal in
              record {
                some_input = omega (arith, here.tables.inputs_are, m.some_input);
                few_inputs = omega (arith, here.tables.inputs_are, m.few_inputs);
                long = l;
                few_paths = omega (arith, here.total_is, m.total_fits);
              }

          before-is : before_test netlist class ws work ≡ (checks (class_rule class ∷ []) then value here.circuit)
          before-is = rw (lent, here.tables.legal) refl

          call-is : (x : Answer (Unit {0})) → checks (class_rule class ∷ []) ≡ x
              → test_call netlist class rec ws work ≡ (x then test_stage here.circuit (class_of class) rec ws)
          unfolding test_call
          call-is x q = rw (before-is, q) (go x)
            where
              go : (y : Answer (Unit {0})) → (y then value here.circuit into λ N. test_stage N (class_of class) rec ws) ≡ (y then test_stage here.circuit (class_of class) rec ws)
              go (refused n) = refl
              go (value u) = refl

          module _ (c : Result (Unit {0}) Refusal)
              (made : (N : Netlist) → l0.shape.inputs ≡ N.inputs → l0.total ≡ path_total N → answer_of c ≡ checks (class_rule class ∷ place_rules N rec ws)) where
            rules-are : answer_of c ≡ checks (class_rule class ∷ place_rules here.circuit rec ws)
            rules-are = made here.circuit here.tables.inputs_are here.total_is

            pub call-refused : {w : Refusal} → c ≡ Err w → TestTrue (Err w) netlist class rec ws ws work work
            unfolding test_answer test_store
            call-refused {w = w} d =
                let q : test_call netlist class rec ws work ≡ refused (refusal_number_of w) =
                call-is (checks (class_rule class ∷ [])) refl
                ∙ go (checks (class_rule class ∷ [])) (sym (ap answer_of d) ∙ rules-are ∙ checks-both (class_rule class ∷ []) (place_rules here.circuit rec ws)) in
                record { answer = rw q refl; store = rw q refl; memory = record { same_length_of = refl; past_work = refl; not_reached = λ n p. refl } }
              where
                go : (x : Answer (Unit {0})) → refused (refusal_number_of w) ≡ (x then checks (place_rules here.circuit rec ws))
                    → (x then test_stage here.circuit (class_of class) rec ws) ≡ refused (refusal_number_of w)
                go (refused n) p = ap (λ k. refused k) (sym (refused-inj p))
                go (value u) p = stage-refused here.circuit (class_of class) rec ws (refusal_number_of w) p

            module _ (d : c ≡ Ok tt) where
              all_pass : AllPass (class_rule class ∷ place_rules here.circuit rec ws)
              all_pass = checks→ (class_rule class ∷ place_rules here.circuit rec ws) (record { got = tt; is = sym (sym (ap answer_of d) ∙ rules-are) })

              class-passes : checks (class_rule class ∷ []) ≡ value tt
              class-passes = →checks (class_rule class ∷ []) (pass_first (class_rule class ∷ []) (place_rules here.circuit rec ws) all_pass)

              places-pass : value tt ≡ checks (place_rules here.circuit rec ws)
              places-pass = sym (→checks (place_rules here.circuit rec ws) (pass_second (class_rule class ∷ []) (place_rules here.circuit rec ws) all_pass))

              pub call-legal : LegalReady netlist positions counts l0.shape rec ws work
              call-legal = record {
                stage = record {
                  circuit = here.circuit;
                  tables = here.tables;
                  memory = record { store_length = l; sound = passes-store here.circuit rec ws places-pass; work_length = k };
                };
                legal_record = passes-test here.circuit rec ws places-pass;
              }

              pub call-true : {ws' work' : List ℕ} {a : (Result TestCounts Refusal)}
                  → ((N : Netlist) → CircuitTables N netlist positions counts l0.shape → TestedIs (test_stage N (class_of class) rec ws) ws ws' work work' a)
                  → TestTrue a netlist class rec ws ws' work work'
              unfolding test_answer test_store returned_by store_after
              call-true tested =
                  let s = tested here.circuit here.tables in
                  let q : test_call netlist class rec ws work ≡ test_stage here.circuit (class_of class) rec ws = call-is (value tt) class-passes in
                  let b : before_test netlist class ws work ≡ value here.circuit = before-is ∙ rw class-passes refl in
                  record {
                    answer = s.answer ∙ rw q refl;
                    store = s.store ∙ rw q refl;
                    memory = record {
                      same_length_of = s.same_length_of;
                      past_work = s.past_work;
                      not_reached = λ n p. absurd (not_refused (sym p ∙ b));
                    };
                  }
