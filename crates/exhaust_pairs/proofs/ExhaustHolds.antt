-- All pairs of a small block show exactly what legal tests can show.
-- The idea: each legal test has two different vectors, so it is the test of one of the pairs; and each pair is a legal test.
use Rattle.model.proofs.Prelude.{ℕ, ◌≤◌, ◌<◌, ◌-◌, ◌*◌, ◌^◌, ◌≡◌, ◌∙◌, ap, refl, sym, subst, ◌↔◌, true, Bool, false, ◌&&◌, not, List, [], ◌∷◌, map}
use Rattle.model.proofs.Prelude.{length, get_or, T, leb→le, arith}
use Rattle.model.specs.Base.{Answer, value, checks, any_of}
use Rattle.model.specs.Netlist.{Netlist, path_total, pin_net, output_net}
use Rattle.model.specs.Path.{Edge, rising, falling, Fault, valid, number_of}
use Rattle.model.specs.Detect.{Class, Test, open_pin, has_edge, all_open, detects}
use Rattle.model.specs.Runs.{in_runs, size}
use Rattle.model.specs.Read.{read_netlist, class_of, test_rules, test_of, v1_part, v2_part}
use Rattle.model.specs.Store.{ByEdge, by_edge, tests_taken_of, empty_store, store_runs, store_rules}
use Rattle.model.specs.Calls.{store_rule, before_test, totals_call}
use Rattle.model.specs.Report.{test_all}
use Rattle.model.specs.Demand3.{detected_by, RunsOfDetected}
use Rattle.model.proofs.BoolLaws.{and_right}
use Rattle.model.proofs.ListLaws.{any_map}
use Rattle.model.proofs.AnswerLaws.{steps, checks→, →checks, then-first, then-second, value_inj}
use Rattle.model.proofs.BeforeLaws.{reached→}
use Rattle.model.proofs.WellFormed.{WellFormed}
use Rattle.model.proofs.ReadLaws.{legal, limits}
use Rattle.model.proofs.HoldingLaws.{holding-empty}
use Rattle.model.proofs.DemandHolds.{holds-fault, runs-true}
use Rattle.model.proofs.FileLaws.{left-length, left-passes, left-holding, all-counted}
use Rattle.exhaust_pairs.specs.AllPairs.{pair_record, all_pairs}
use Rattle.exhaust_pairs.specs.Exhaust.{few_inputs, pairs_on, exhaust_call, exhaust_answer, exhaust_after, exhaust_store, Shown, Exhausted, Exhaustive}
use Rattle.exhaust_pairs.proofs.PairVectorLaws.{as_number, number-below, same_number, length-vector, pair_is}
use Rattle.exhaust_pairs.proofs.PairListLaws.{any_pair, all-legal, legal-one, pairs-many}
use Rattle.exhaust_pairs.proofs.OnTheWayLaws.{on-the-way, before-found}

-- A test that detects a fault has two different vectors: with equal ones no input has an edge
no_edge : (t : Test) (e : Edge) (j : ℕ) → t.v1 ≡ t.v2 → T (has_edge t e j) → ⊥
unfolding has_edge
no_edge t rising j q h = none (get_or t.v1 j false) (get_or t.v2 j false) (ap (λ v. get_or v j false) q) h
  where
    none : (a b : Bool) → a ≡ b → T (not a && b) → ⊥
    none true b e u = u
    none false true e u = mathlib.Core.Bool.false≢true e
    none false false e u = u
no_edge t falling j q h = none (get_or t.v1 j false) (get_or t.v2 j false) (ap (λ v. get_or v j false) q) h
  where
    none : (a b : Bool) → a ≡ b → T (a && not b) → ⊥
    none true true e u = u
    none true false e u = mathlib.Core.Bool.true≢false e
    none false b e u = u

not_open : (N : Netlist) (t : Test) (e : Edge) → t.v1 ≡ t.v2 → (ps : List ℕ) (net : ℕ) → T (all_open N (open_pin N t) (has_edge t e) net ps) → ⊥
unfolding all_open
not_open N t e q [] net h = no_edge t e net q h
not_open N t e q (p ∷ ps) net h =
    not_open N t e q ps (pin_net N net p) (and_right (open_pin N t net p) (all_open N (open_pin N t) (has_edge t e) (pin_net N net p) ps) h)

detects-differ : (N : Netlist) (t : Test) (f : Fault) → T (detects N t f) → t.v1 ≡ t.v2 → ⊥
unfolding detects
detects-differ N t f h q = not_open N t f.edge q f.path.pins (output_net N f.path.output) h

module _ (N : Netlist) (low : 1 ≤ N.inputs) (high : N.inputs ≤ 6) (c : Class) (f : Fault) where
  abbrev pair_tests : List Test
  pair_tests = map (test_of N c) (all_pairs N.inputs)

  abbrev finds : List ℕ → Bool
  finds rec = detects N (test_of N c rec) f

  found-by : any_of finds (all_pairs N.inputs) ≡ detected_by N pair_tests f
  unfolding detected_by
  found-by = any_map (λ u. detects N u f) (test_of N c) (all_pairs N.inputs)

  -- what any test of the inputs detects, one of the pairs detects
  covered : (t : Test) → t.class ≡ c → length t.v1 ≡ N.inputs → length t.v2 ≡ N.inputs → T (detects N t f) → T (any_of finds (all_pairs N.inputs))
  covered t k l m d =
      let a : ℕ = as_number t.v1 in
      let b : ℕ = as_number t.v2 in
      any_pair finds N.inputs a b
      (subst (λ n. a < 2 ^ n) l (number-below t.v1)) (subst (λ n. b < 2 ^ n) m (number-below t.v2))
      (λ e. detects-differ N t f d (same_number t.v1 t.v2 (l ∙ sym m) e))
      (subst (λ (u : Test). T (detects N u f)) (sym (ap (λ (x : Class). test_of N x (pair_record a b)) (sym k) ∙ pair_is N low high t l m)) d)

  pub pairs-show : T (detected_by N pair_tests f) ↔ Shown N c f
  unfolding test_of
  pairs-show = (
    λ t.
        let o = legal-one N finds (all_pairs N.inputs) (all-legal N low high) (subst T (sym found-by) t) in
        record { rec = o.rec; is_legal = →checks (test_rules N o.rec) o.passes; detected = o.is },
    λ s.
        subst T found-by
        (covered (test_of N c s.rec) refl (length-vector N.inputs (v1_part N s.rec)) (length-vector N.inputs (v2_part N s.rec)) s.detected),
  )

-- The call: it is not refused exactly when the pairs are all taken
record AllTakenBy (netlist : List ℕ) (class : ℕ) (ws work : List ℕ) (N : Netlist) (totals : ByEdge ℕ) : Type 0 where
  left : List ℕ
  gives : exhaust_call netlist class ws work ≡ value left
  few : N.inputs ≤ 6
  all : test_all N (class_of class) (all_pairs N.inputs) empty_store ≡ value left
  sums : by_edge (λ e. size (store_runs left e)) ≡ totals

module _ (netlist : List ℕ) (class : ℕ) (ws work : List ℕ) (N : Netlist) (read : read_netlist netlist ≡ value N) (totals : ByEdge ℕ)
    (answered : exhaust_answer netlist class ws work ≡ value totals) where
  abbrev c : Class
  c = class_of class

  all-taken : AllTakenBy netlist class ws work N totals
  unfolding exhaust_answer exhaust_call pairs_on
  all-taken =
      let s = steps (exhaust_call netlist class ws work) (λ left. value (by_edge (λ e. size (store_runs left e)))) answered in
      let p = steps (before_test netlist class ws work) (λ M. pairs_on M c) s.first in
      let is : p.got ≡ N = value_inj (sym (reached→ netlist class ws work p.got p.first).is_legal ∙ read) in
      let rest : pairs_on N c ≡ value s.got = subst (λ M. pairs_on M c ≡ value s.got) is p.second in
      let few = checks (few_inputs N ∷ []) in
      let tests = test_all N c (all_pairs N.inputs) empty_store in
      record {
        left = s.got;
        gives = s.first;
        few = leb→le N.inputs 6 (checks→ (few_inputs N ∷ []) (then-first few tests rest)).0;
        all = then-second few tests rest;
        sums = value_inj s.second;
      }

  abbrev left : List ℕ
  left = all-taken.left

  abbrev pairs : List (List ℕ)
  pairs = all_pairs N.inputs

  left_is : exhaust_store netlist class ws work ≡ left
  unfolding exhaust_store
  left_is = ap (λ (a : Answer (List ℕ)). exhaust_after a ws) all-taken.gives

  w : WellFormed N
  w = legal netlist N read

  low : 1 ≤ N.inputs
  low = (limits netlist N read).some_input

  runs-are : (e : Edge) → RunsOfDetected N (map (test_of N c) pairs) e (store_runs left e)
  runs-are e = runs-true N w (map (test_of N c) pairs) left (left-holding N c pairs left all-taken.all) e

  shows : (f : Fault) → T (valid N f.path) → T (in_runs (store_runs left f.edge) (number_of N f.path)) ↔ Shown N c f
  shows f v =
      let held = holds-fault N w (map (test_of N c) pairs) f (store_runs left f.edge) (runs-are f.edge) v in
      let shown = pairs-show N low all-taken.few c f in
      (λ t. shown.0 (held.0 t), λ s. held.1 (shown.1 s))

  counted : tests_taken_of left ≡ 2 ^ N.inputs * (2 ^ N.inputs - 1)
  counted =
      all-counted N c pairs empty_store (λ d k. false) left (holding-empty N) all-taken.all
      ∙ omega (arith, pairs-many N.inputs low all-taken.few)

  totals-true : totals_call netlist left ≡ value totals
  unfolding totals_call
  totals-true =
      let a : checks (store_rule left ∷ []) ≡ value tt = →checks (store_rule left ∷ []) (rw (left-length N c pairs left all-taken.all) tt, tt) in
      let b : checks (store_rules (path_total N) left) ≡ value tt =
      →checks (store_rules (path_total N) left) (left-passes N c pairs left all-taken.all) in
      rw (a, read) (rw b (ap value all-taken.sums))

  whole : Exhausted netlist N class (exhaust_store netlist class ws work) totals
  whole =
      subst (λ s. Exhausted netlist N class s totals) (sym left_is)
      (record { shows = shows; no_other = runs-are; counted = counted; totals_true = totals-true })

pub exhaustive : Exhaustive
exhaustive = record { whole = whole; on_the_way = on-the-way; before = before-found }
