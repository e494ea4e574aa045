-- Pairs that change nothing: what 85 refuses, and that no report is accepted whose list of tests holds one.
use Rattle.model.proofs.Prelude.{ℕ, suc, zero, ◌≡◌, ◌∙◌, ap, refl, sym, subst, ap₂, ⊎_elim, true, Bool, false, not, ◌||◌, Bool·beq, List, []}
use Rattle.model.proofs.Prelude.{◌∷◌, ◌++◌, map, List·Memᴰ·not-nil, List-as-Memᴰ, List·Memᴰ·cases-cons, get_or, drop, T, T_not}
use Rattle.model.specs.Base.{Answer, refused, value, ◌then◌, Rule, checks, any_of, numbers_from}
use Rattle.model.specs.Netlist.{Netlist, path_total}
use Rattle.model.specs.Detect.{Class, Test}
use Rattle.model.specs.Read.{input_bit, is_changed, some_change_of, v1_part, v2_part, read_netlist, class_of, test_rules, test_of}
use Rattle.model.specs.Store.{tests_taken_of, runs_by_edge, store_rules}
use Rattle.model.specs.Calls.{tests_rule, work_rules, test_stage, tested}
use Rattle.model.specs.Report.{file_records, audit_answer}
use Rattle.model.specs.Demand3.{AllTaken}
use Rattle.model.specs.Unchanged.{Unchanged, rules_before, UnchangedPairs}
use Rattle.model.proofs.BoolLaws.{not→false}
use Rattle.model.proofs.AnswerLaws.{checks→, checks-both, value_inj}
use Rattle.model.proofs.ReportsHold.{demand_3}

-- one input more: it is changed or not
none_more : (a b r : Bool) → a ≡ b → T (not r) → T (not (not (Bool·beq a b) || r))
none_more true true r e t = t
none_more true false r e t = absurd (mathlib.Core.Bool.true≢false e)
none_more false true r e t = absurd (mathlib.Core.Bool.false≢true e)
none_more false false r e t = t

none_here : (a b r : Bool) → T (not (not (Bool·beq a b) || r)) → (a ≡ b) × T (not r)
none_here true true r t = (refl, t)
none_here true false r t = absurd t
none_here false true r t = absurd t
none_here false false r t = (refl, t)

module _ (v1 v2 : List ℕ) where
  same→none : (n k : ℕ) → map (input_bit v1) (numbers_from k n) ≡ map (input_bit v2) (numbers_from k n) → T (not (any_of (is_changed v1 v2) (numbers_from k n)))
  same→none zero k e = tt
  same→none (suc n) k e =
      none_more (input_bit v1 k) (input_bit v2 k) (any_of (is_changed v1 v2) (numbers_from (suc k) n)) (ap (λ vs. get_or vs 0 false) e)
      (same→none n (suc k) (ap (drop 1) e))

  none→same : (n k : ℕ) → T (not (any_of (is_changed v1 v2) (numbers_from k n))) → map (input_bit v1) (numbers_from k n) ≡ map (input_bit v2) (numbers_from k n)
  none→same zero k t = refl
  none→same (suc n) k t =
      let h = none_here (input_bit v1 k) (input_bit v2 k) (any_of (is_changed v1 v2) (numbers_from (suc k) n)) t in
      ap₂ (λ v vs. v ∷ vs) h.0 (none→same n (suc k) h.1)

module _ (N : Netlist) (rec : List ℕ) where
  abbrev some : Bool
  some = some_change_of N.inputs (v1_part N rec) (v2_part N rec)

  pub unchanged→ : Unchanged N rec → T (not some)
  unchanged→ u = same→none (v1_part N rec) (v2_part N rec) N.inputs 0 u

  pub →unchanged : T (not some) → Unchanged N rec
  →unchanged t = none→same (v1_part N rec) (v2_part N rec) N.inputs 0 t

  -- the place Test is 30 to 32, then 85
  then-change : checks (test_rules N rec) ≡ (checks (rules_before N rec) then checks ((85, some) ∷ []))
  then-change = checks-both (rules_before N rec) ((85, some_change_of N.inputs (v1_part N rec) (v2_part N rec)) ∷ [])

  some-false : Unchanged N rec → some ≡ false
  some-false u = not→false some (T_not some (unchanged→ u))

  some-true : (Unchanged N rec → ⊥) → some ≡ true
  some-true h = either some (λ t. h (→unchanged t))
    where
      either : (b : Bool) → (T (not b) → ⊥) → b ≡ true
      either true f = refl
      either false f = absurd (f tt)

  as_before : (Unchanged N rec → ⊥) → checks (test_rules N rec) ≡ checks (rules_before N rec)
  as_before h = then-change ∙ rw (some-true h) (past (checks (rules_before N rec)))
    where
      past : (a : Answer (Unit {0})) → (a then value tt) ≡ a
      past (refused n) = refl
      past (value u) = refl

  -- what the place Test refuses, the test stage refuses, whatever the store
  module _ (c : Class) (ws : List ℕ) where
    refused-stage : (n : ℕ) → checks (test_rules N rec) ≡ refused n → test_stage N c rec ws ≡ refused n
    unfolding test_stage
    refused-stage n q =
        let rest : List Rule = store_rules (path_total N) ws ++ (tests_rule ws ∷ work_rules N (runs_by_edge ws) (test_of N c rec)) in
        let both : checks (test_rules N rec ++ rest) ≡ refused n = checks-both (test_rules N rec) rest ∙ ap (λ a. a then checks rest) q in
        ap (λ a. a then value (tested N (tests_taken_of ws) (runs_by_edge ws) (test_of N c rec))) both

    earlier-refused : (n : ℕ) → checks (rules_before N rec) ≡ refused n → test_stage N c rec ws ≡ refused n
    earlier-refused n q = refused-stage n (then-change ∙ rw q refl)

    unchanged_refused : checks (rules_before N rec) ≡ value tt → Unchanged N rec → test_stage N c rec ws ≡ refused 85
    unchanged_refused q u = refused-stage 85 (then-change ∙ rw (q, some-false u) refl)

-- a record of a file that is taken has a changed input
taken-changed : (N : Netlist) (c : Class) (before : List Test) (recs : List (List ℕ)) (rec : List ℕ) → AllTaken N c before recs → List-as-Memᴰ rec recs → Unchanged N rec → ⊥
taken-changed N c before [] rec k m u = absurd (List·Memᴰ·not-nil m)
taken-changed N c before (r ∷ rs) rec k m u =
    ⊎_elim
    (λ (q : rec ≡ r). lacks r k.0.legal_record (subst (λ x. Unchanged N x) q u))
    (λ (s : List-as-Memᴰ rec rs). taken-changed N c (test_of N c r ∷ before) rs rec k.1 s u)
    (List·Memᴰ·cases-cons m)
  where
    lacks : (r : List ℕ) → checks (test_rules N r) ≡ value tt → Unchanged N r → ⊥
    lacks r l v =
        T_not (some_change_of N.inputs (v1_part N r) (v2_part N r)) (unchanged→ N r v) (checks→ (test_rules N r) (record { got = tt; is = l })).1.1.1.0

not_accepted_lem : (netlist : List ℕ) (N : Netlist) → read_netlist netlist ≡ value N → (class : ℕ) (test_file report ws work rec : List ℕ)
    → List-as-Memᴰ rec (file_records N test_file) → Unchanged N rec → audit_answer netlist class test_file report ws work ≡ value tt → ⊥
not_accepted_lem netlist N e class test_file report ws work rec m u q =
    let a = (demand_3.audits netlist class test_file report ws work).0 q in
    let same : a.circuit ≡ N = value_inj (sym a.legal ∙ e) in
    let taken : AllTaken N (class_of class) [] (file_records N test_file) =
    subst (λ M. AllTaken M (class_of class) [] (file_records M test_file)) same a.taken.taken in
    taken-changed N (class_of class) [] (file_records N test_file) rec taken m u

-- Ticket 8
pub unchanged_pairs : UnchangedPairs
unchanged_pairs = record {
  means = λ N rec. (unchanged→ N rec, →unchanged N rec);
  earlier = λ N c rec ws. earlier-refused N rec c ws;
  refuses = λ N c rec ws. unchanged_refused N rec c ws;
  others = as_before;
  not_accepted = not_accepted_lem;
}
