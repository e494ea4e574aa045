-- One record: the rules of the places Test and Store before the place Work.
use Rattle.model.proofs.Prelude.{ℕ, ◌≡◌, ◌∙◌, ap, refl, sym, List, ◌∷◌, append_assoc}
use Rattle.model.specs.Base.{Answer, refused, value, ◌then◌, Rule, checks}
use Rattle.model.specs.Netlist.{Netlist, path_total}
use Rattle.model.specs.Detect.{Class}
use Rattle.model.specs.Read.{test_rules, test_of}
use Rattle.model.specs.Store.{store_rules, tests_taken_of, runs_by_edge}
use Rattle.model.specs.Calls.{tests_rule, work_rules, Tested, tested, test_stage}
use Rattle.model.proofs.AnswerLaws.{checks→, →checks, pass_first, pass_second, then-second, checks-both}
use Rattle.store_coverage.specs.Stage.{place_rules, work_stage}

module _ (N : Netlist) (c : Class) (rec ws : List ℕ) where
  then-again : (x y : Answer (Unit {0})) (t : Tested) → ((x then y) then value t) ≡ (x then (y then value t))
  then-again (refused n) y t = refl
  then-again (value u) y t = refl

  stage-after : test_stage N c rec ws ≡ (checks (place_rules N rec ws) then work_stage N (test_of N c rec) ws)
  unfolding test_stage work_stage
  stage-after =
      let works : List Rule = tests_rule ws ∷ work_rules N (runs_by_edge ws) (test_of N c rec) in
      let made : Tested = tested N (tests_taken_of ws) (runs_by_edge ws) (test_of N c rec) in
      ap (λ (rs : List Rule). checks rs then value made) (sym (append_assoc (test_rules N rec) (store_rules (path_total N) ws) works))
      ∙ ap (λ (x : Answer (Unit {0})). x then value made) (checks-both (place_rules N rec ws) works)
      ∙ then-again (checks (place_rules N rec ws)) (checks works) made

  pub stage-refused : (n : ℕ) → refused n ≡ checks (place_rules N rec ws) → test_stage N c rec ws ≡ refused n
  stage-refused n e = stage-after ∙ rw (← e) refl

  pub stage-is-work : (d : Tested) → test_stage N c rec ws ≡ value d → work_stage N (test_of N c rec) ws ≡ value d
  stage-is-work d e = then-second (checks (place_rules N rec ws)) (work_stage N (test_of N c rec) ws) (sym stage-after ∙ e)

  pub stage-work : value tt ≡ checks (place_rules N rec ws) → test_stage N c rec ws ≡ work_stage N (test_of N c rec) ws
  stage-work e = stage-after ∙ rw (← e) refl

module _ (N : Netlist) (rec ws : List ℕ) where
  pub passes-test : value tt ≡ checks (place_rules N rec ws) → checks (test_rules N rec) ≡ value tt
  passes-test e =
      →checks (test_rules N rec) (pass_first (test_rules N rec) (store_rules (path_total N) ws) (checks→ (place_rules N rec ws) (record { got = tt; is = sym e })))

  pub passes-store : value tt ≡ checks (place_rules N rec ws) → checks (store_rules (path_total N) ws) ≡ value tt
  passes-store e =
      →checks (store_rules (path_total N) ws)
      (pass_second (test_rules N rec) (store_rules (path_total N) ws) (checks→ (place_rules N rec ws) (record { got = tt; is = sym e })))
