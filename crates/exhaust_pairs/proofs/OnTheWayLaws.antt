-- Which numbers all pairs are refused with: 50 or 51 alone on the way, neither before it.
use Rattle.model.proofs.Prelude.{ℕ, ◌≤◌, ◌<◌, ◌+◌, ◌*◌, suc, zero, ◌≡◌, ◌∙◌, ap, refl, sym, subst, ⊎_elim, true, Bool, false, not, ◌||◌, List, []}
use Rattle.model.proofs.Prelude.{◌∷◌, ◌++◌, length, get_or, drop, leb, T, eqb, leb→le, ltb, eqb→eq, lt→ltb, arith, not-true}
use lib.Dec.{not_T}
use Rattle.model.specs.Base.{Answer, refused, value, ◌into◌, ◌then◌, check, Rule, checks, all_of, field}
use Rattle.model.specs.Netlist.{Netlist, Gate, net_by_net, gate_count, output_count, path_total}
use Rattle.model.specs.Detect.{Class, Test}
use Rattle.model.specs.Read.{read_netlist, read_gates, read_outputs_of, gate_rules, output_rules, header_rules, gate_in, count_in, inputs_in, gates_in, outputs_in, input_counts, class_rule, test_rules}
use Rattle.model.specs.Read.{test_of}
use Rattle.model.specs.Store.{max_tests, tests_taken_of, empty_store, store_rules, runs_by_edge}
use Rattle.model.specs.Calls.{store_left, tested, test_stage, stage_rules, tests_rule, work_rules, store_rule, work_rule, before_test}
use Rattle.model.specs.Report.{test_all}
use Rattle.model.proofs.BoolLaws.{T→true, and_left, and_right, or_cases}
use Rattle.model.proofs.AnswerLaws.{AllPass, →checks, checks-both}
use Rattle.model.proofs.ReadLaws.{limits}
use Rattle.model.proofs.HoldingLaws.{Sets, Holding, with_test, holding-empty, holding-passes, holding-next, stage-tests}
use Rattle.model.proofs.StoreLaws.{tests-store}
use Rattle.exhaust_pairs.specs.AllPairs.{all_pairs}
use Rattle.exhaust_pairs.specs.Exhaust.{few_inputs, of_work, exhaust_call, exhaust_after, exhaust_store}
use Rattle.exhaust_pairs.proofs.PairListLaws.{AllLegal, all-legal, few-pairs}

-- The answer's refusal, if it is one, has a number that passes the test
abbrev Refuses : {A : Type 0} → (ℕ → Bool) → Answer A → Type 0
Refuses P (refused n) = T (P n)
Refuses P (value a) = Unit {0}

refuses-then : {A B : Type 0} (P : ℕ → Bool) (m : Answer A) (n : Answer B) → Refuses P m → Refuses P n → Refuses P (m then n)
refuses-then P (refused k) n o p = o
refuses-then P (value a) n o p = p

refuses-bind : {A B : Type 0} (P : ℕ → Bool) (m : Answer A) (f : A → Answer B) → Refuses P m → ((a : A) → m ≡ value a → Refuses P (f a)) → Refuses P (m into f)
refuses-bind P (refused k) f o p = o
refuses-bind P (value a) f o p = p a refl

refuses-check : (P : ℕ → Bool) (n : ℕ) (b : Bool) → T (P n) → Refuses P (check n b)
refuses-check P n true h = tt
refuses-check P n false h = h

refuses-checks : (P : ℕ → Bool) (rs : List Rule) → T (all_of (λ r. P r.0) rs) → Refuses P (checks rs)
refuses-checks P [] t = tt
refuses-checks P (r ∷ rs) t =
    let others : Bool = all_of (λ q. P q.0) rs in
    refuses-then P (check r.0 r.1) (checks rs) (refuses-check P r.0 r.1 (and_left (P r.0) others t)) (refuses-checks P rs (and_right (P r.0) others t))

-- On the way
stage-only : (N : Netlist) (c : Class) (r ws : List ℕ) (D : Sets) → Holding N ws D → tests_taken_of ws < max_tests → AllPass (test_rules N r)
    → Refuses of_work (test_stage N c r ws)
unfolding test_stage
stage-only N c r ws D x m p =
    let t : Test = test_of N c r in
    let work = work_rules N (runs_by_edge ws) t in
    let sound = store_rules (path_total N) ws in
    let before = tests_rule ws ∷ work in
    let a : checks (stage_rules N c r ws) ≡ checks work =
    checks-both (test_rules N r) (sound ++ before)
    ∙ ap (λ (m : Answer (Unit {0})). m then checks (sound ++ before)) (→checks (test_rules N r) p)
    ∙ checks-both sound before
    ∙ ap (λ (m : Answer (Unit {0})). m then checks before) (→checks sound (holding-passes N ws D x))
    ∙ ap (λ (b : Bool). check 86 b then checks work) (T→true (ltb (tests_taken_of ws) max_tests) (lt→ltb (tests_taken_of ws) max_tests m)) in
    let taken = tested N (tests_taken_of ws) (runs_by_edge ws) t in
    subst (λ (m : Answer (Unit {0})). Refuses of_work (m then value taken)) (sym a)
    (refuses-then of_work (checks work) (value taken) (refuses-checks of_work work tt) tt)

all-only : (N : Netlist) (c : Class) (recs : List (List ℕ)) (ws : List ℕ) (D : Sets) → Holding N ws D → tests_taken_of ws + length recs ≤ max_tests
    → AllLegal N recs → Refuses of_work (test_all N c recs ws)
unfolding test_all
all-only N c [] ws D x m k = tt
all-only N c (r ∷ rs) ws D x m k =
    refuses-bind of_work (test_stage N c r ws) (λ d. test_all N c rs (store_left d)) (stage-only N c r ws D x (omega arith) k.0)
    (λ d q.
    let h = holding-next N c r ws D x d q in
    let n : tests_taken_of (store_left d) ≡ suc (tests_taken_of ws) = tests-store d.tests d.runs ∙ stage-tests N c r ws D x d q in
    all-only N c rs (store_left d) (with_test N (test_of N c r) D) h (omega (arith, n)) k.1)

pub on-the-way : (netlist : List ℕ) (N : Netlist) → read_netlist netlist ≡ value N → T (few_inputs N).1
    → (c : Class) (n : ℕ) → test_all N c (all_pairs N.inputs) empty_store ≡ refused n → T (of_work n)
on-the-way netlist N e few c n q =
    let low = (limits netlist N e).some_input in
    let high = leb→le N.inputs 6 few in
    subst (λ (a : Answer (List ℕ)). Refuses of_work a) q
    (all-only N c (all_pairs N.inputs) empty_store (λ d k. false) (holding-empty N) (few-pairs N.inputs low high) (all-legal N low high))

-- Before it: the numbers are at most 21, or 83
abbrev pub early : ℕ → Bool
early n = leb n 21 || eqb n 83

gates-other : (n : ℕ) (cs bs : List ℕ) → Refuses early (read_gates n cs bs)
unfolding read_gates
gates-other zero cs bs = tt
gates-other (suc n) cs bs =
    let rules = gate_rules (length cs) cs bs in
    let more = read_gates n (cs ++ (count_in cs bs ∷ [])) (drop (4 + 2 * get_or bs 3 0) bs) in
    refuses-bind early (checks rules then more) (λ r. value (gate_in bs ∷ r.0, r.1))
    (refuses-then early (checks rules) more (refuses-checks early rules tt) (gates-other n _ _))
    (λ r e. tt)

outputs-other : (n inputs nets : ℕ) (cs : List ℕ) (least s : ℕ) (bs : List ℕ) → Refuses early (read_outputs_of n inputs nets cs least s bs)
unfolding read_outputs_of
outputs-other zero inputs nets cs least s bs = tt
outputs-other (suc n) inputs nets cs least s bs =
    let rules = output_rules inputs nets cs least s bs in
    let more = read_outputs_of n inputs nets cs (suc (field 2 2 bs)) (s + output_count inputs cs (field 2 2 bs)) (drop 4 bs) in
    refuses-bind early (checks rules then more) (λ r. value (field 2 2 bs ∷ r.0, r.1))
    (refuses-then early (checks rules) more (refuses-checks early rules tt) (outputs-other n inputs nets cs _ _ _))
    (λ r e. tt)

netlist-other : (bs : List ℕ) → Refuses early (read_netlist bs)
unfolding read_netlist
netlist-other bs =
    let gs = read_gates (gates_in bs) (input_counts bs) (drop 8 bs) in
    let os : List Gate × List ℕ → Answer (List ℕ × List ℕ) =
    λ g. read_outputs_of (outputs_in bs) (inputs_in bs) (inputs_in bs + gates_in bs) (net_by_net gate_count 0 (input_counts bs) g.0) 0 0 g.1 in
    let last : List ℕ × List ℕ → List Rule = λ o. (20, eqb (length o.1) 0) ∷ [] in
    let end : List Gate × List ℕ → List ℕ × List ℕ → Answer Netlist =
    λ g o. checks (last o) then value (record { inputs = inputs_in bs; gates = g.0; outputs = o.0 }) in
    refuses-bind early (checks (header_rules bs) then gs) (λ g. os g into end g)
    (refuses-then early (checks (header_rules bs)) gs (refuses-checks early (header_rules bs) tt) (gates-other (gates_in bs) (input_counts bs) (drop 8 bs)))
    (λ g e. refuses-bind early (os g) (end g) (outputs-other _ _ _ _ _ _ _)
    (λ o q. refuses-then early (checks (last o)) _ (refuses-checks early (last o) tt) tt))

before-other : (netlist : List ℕ) (class : ℕ) (ws work : List ℕ) → Refuses early (before_test netlist class ws work)
before-other netlist class ws work =
    let lent = store_rule ws ∷ work_rule work ∷ [] in
    let known = class_rule class ∷ [] in
    refuses-bind early (checks lent then read_netlist netlist) (λ N. checks known then value N)
    (refuses-then early (checks lent) (read_netlist netlist) (refuses-checks early lent tt) (netlist-other netlist))
    (λ N e. refuses-then early (checks known) (value N) (refuses-checks early known tt) tt)

pub before-numbers : (netlist : List ℕ) (class : ℕ) (ws work : List ℕ) (n : ℕ) → before_test netlist class ws work ≡ refused n → T (early n)
before-numbers netlist class ws work n e = subst (λ (a : Answer Netlist). Refuses early a) e (before-other netlist class ws work)

early-other : (n : ℕ) → T (early n) → T (not (of_work n))
early-other n t =
    not_T (of_work n)
    (λ w. ⊎_elim
    (λ (b : T (eqb n 50)). subst (λ (k : ℕ). T (early k)) (eqb→eq n 50 b) t)
    (λ (b : T (eqb n 51)). subst (λ (k : ℕ). T (early k)) (eqb→eq n 51 b) t)
    (or_cases (eqb n 50) (eqb n 51) w))

-- so the store is then as found
pub found-other : (n : ℕ) (ws : List ℕ) → T (not (of_work n)) → exhaust_after (refused n) ws ≡ ws
found-other n ws t = rw (not-true (of_work n) (T→true (not (of_work n)) t), exhaust_after) refl

pub emptied-work : (n : ℕ) (ws : List ℕ) → T (of_work n) → exhaust_after (refused n) ws ≡ empty_store
emptied-work n ws t =
    let emptied : ℕ → Type 0 = λ k. exhaust_after (refused k) ws ≡ empty_store in
    ⊎_elim (λ u. subst emptied (sym (eqb→eq n 50 u)) refl) (λ u. subst emptied (sym (eqb→eq n 51 u)) refl) (or_cases (eqb n 50) (eqb n 51) t)

pub before-found : (netlist : List ℕ) (class : ℕ) (ws work : List ℕ) (n : ℕ) → before_test netlist class ws work ≡ refused n
    → exhaust_store netlist class ws work ≡ ws
unfolding exhaust_store exhaust_call
before-found netlist class ws work n e =
    rw e (found-other n ws (early-other n (before-numbers netlist class ws work n e)))
