-- What the classes mean for one another: robust faults are among the non-robust ones, also in reports, and a steady net has one value; a hazard
-- shows that equal values do not make a net steady.
use Rattle.model.proofs.Prelude.{ℕ, suc, zero, ◌≡◌, ◌∙◌, ap, refl, sym, subst, ⊎_elim, true, Bool, false, ◌&&◌, not, ◌||◌, Bool·beq, and-false}
use Rattle.model.proofs.Prelude.{List, [], ◌∷◌, ◌++◌, map, get_or, T}
use mathlib.Core.Bool.{or-true}
use mathlib.Core.Option.{some}
use Rattle.model.specs.Base.{value, all_of, any_of, numbers_from}
use Rattle.model.specs.Netlist.{Netlist, Gate, Kind, buffer, inverter, and, nand, or, nor, xor, xnor, net_by_net, at_nets, gate_of, pin_net, output_net}
use Rattle.model.specs.Path.{Edge, rising, falling, Fault, valid}
use Rattle.model.specs.Detect.{nonRobust, robust, Test, Evaluation, no_evaluation, input_evaluation, gate_value, one_controls, gate_evaluation, evaluate, non_controlling, others, open_among}
use Rattle.model.specs.Detect.{robust_sides, robust_among, differs, is_open, pin_evaluations, open_pin, has_edge, all_open, detects}
use Rattle.model.specs.Read.{read_netlist, test_of}
use Rattle.model.specs.Report.{file_records, audit_answer}
use Rattle.model.specs.Demand3.{detected_by, tests_of}
use Rattle.model.specs.Classes.{judged_in, names, ClassesTrue}
use Rattle.model.proofs.BoolLaws.{and_left, and_right, both, or_cases, or_left, or_right, beq→}
use Rattle.model.proofs.ListLaws.{all_of_head, all_of_tail}
use Rattle.model.proofs.ReportsHold.{demand_3}

-- A hazard: OR of a net that rises and one that falls is 1 under both vectors, and not steady
abbrev rises : Evaluation
rises = record { under_v1 = false; under_v2 = true; steady = false }

abbrev falls : Evaluation
falls = record { under_v1 = true; under_v2 = false; steady = false }

abbrev at_one : Evaluation
at_one = record { under_v1 = true; under_v2 = true; steady = false }

pub hazard-not_steady : gate_evaluation or (rises ∷ falls ∷ []) ≡ at_one
hazard-not_steady = refl

-- and beside it a pin of AND that falls is open in class 1 and not robustly
pub hazard-shuts : (is_open nonRobust and (falls ∷ at_one ∷ []) 0 ≡ true) × (is_open robust and (falls ∷ at_one ∷ []) 0 ≡ false)
hazard-shuts = (refl, refl)

-- a test that passes wherever another one does
module _ {A : Type 0} (f g : A → Bool) (h : (x : A) → T (f x) → T (g x)) where
  all_of_weaker : (xs : List A) → T (all_of f xs) → T (all_of g xs)
  all_of_weaker [] t = tt
  all_of_weaker (x ∷ xs) t = both (g x) (all_of g xs) (h x (all_of_head f x xs t)) (all_of_weaker xs (all_of_tail f x xs t))

  others-weaker : (xs : List A) (p : ℕ) → T (others f xs p) → T (others g xs p)
  others-weaker [] p t = tt
  others-weaker (x ∷ xs) zero t = all_of_weaker xs t
  others-weaker (x ∷ xs) (suc p) t =
      both (g x) (others g xs p) (h x (and_left (f x) (others f xs p) t)) (others-weaker xs p (and_right (f x) (others f xs p) t))

-- a robustly open pin is open
sides-open : (b : Bool) (ns : List Evaluation) (p : ℕ) → T (robust_sides b ns p) → T (others (λ n. Bool·beq b n.under_v2) ns p)
sides-open b ns p t = go (Bool·beq b (get_or ns p no_evaluation).under_v2) t
  where
    go : (v : Bool)
        → T (elim v [ true ↦ others (λ n. Bool·beq b n.under_v2) ns p | false ↦ others (λ n. n.steady && Bool·beq b n.under_v2) ns p ])
        → T (others (λ n. Bool·beq b n.under_v2) ns p)
    go true s = s
    go false s = others-weaker (λ n. n.steady && Bool·beq b n.under_v2) (λ n. Bool·beq b n.under_v2) (λ n. and_right n.steady (Bool·beq b n.under_v2)) ns p s

among-open : (kind : Kind) (ns : List Evaluation) (p : ℕ) → T (robust_among kind ns p) → T (open_among (non_controlling kind) ns p)
among-open buffer ns p t = tt
among-open inverter ns p t = tt
among-open and ns p t = sides-open true ns p t
among-open nand ns p t = sides-open true ns p t
among-open or ns p t = sides-open false ns p t
among-open nor ns p t = sides-open false ns p t
among-open xor ns p t = tt
among-open xnor ns p t = tt

pub robust_open : (kind : Kind) (ns : List Evaluation) (p : ℕ) → T (is_open robust kind ns p) → T (is_open nonRobust kind ns p)
robust_open kind ns p t = among-open kind ns p (and_right (differs (get_or ns p no_evaluation)) (robust_among kind ns p) t)

module _ (N : Netlist) (t : Test) where
  opens : (net p : ℕ) → T (open_pin N (judged_in robust t) net p) → T (open_pin N (judged_in nonRobust t) net p)
  unfolding open_pin
  opens net p = robust_open (gate_of N net).kind (pin_evaluations N t.v1 t.v2 net) p

  edge_same : (e : Edge) (j : ℕ) → has_edge (judged_in robust t) e j ≡ has_edge (judged_in nonRobust t) e j
  unfolding has_edge
  edge_same rising j = refl
  edge_same falling j = refl

  all-opens : (e : Edge) (ps : List ℕ) (net : ℕ) → T (all_open N (open_pin N (judged_in robust t)) (has_edge (judged_in robust t) e) net ps)
      → T (all_open N (open_pin N (judged_in nonRobust t)) (has_edge (judged_in nonRobust t) e) net ps)
  unfolding all_open
  all-opens e [] net s = subst T (edge_same e net) s
  all-opens e (p ∷ ps) net s =
      let r = all_open N (open_pin N (judged_in robust t)) (has_edge (judged_in robust t) e) (pin_net N net p) ps in
      both (open_pin N (judged_in nonRobust t) net p) (all_open N (open_pin N (judged_in nonRobust t)) (has_edge (judged_in nonRobust t) e) (pin_net N net p) ps)
      (opens net p (and_left (open_pin N (judged_in robust t) net p) r s))
      (all-opens e ps (pin_net N net p) (and_right (open_pin N (judged_in robust t) net p) r s))

-- Every test's robust faults are among its non-robust ones
pub robust_among-non_robust : (N : Netlist) (t : Test) (f : Fault) → T (detects N (judged_in robust t) f) → T (detects N (judged_in nonRobust t) f)
unfolding detects
robust_among-non_robust N t f s = all-opens N t f.edge f.path.pins (output_net N f.path.output) s

-- A steady net has one value
abbrev SteadySame : Evaluation → Type 0
SteadySame n = T n.steady → n.under_v1 ≡ n.under_v2

abbrev AllSame : List Evaluation → Type 0
AllSame [] = Unit {0}
AllSame (n ∷ ns) = SteadySame n × AllSame ns

-- all pins are steady
maps_same : (ns : List Evaluation) → AllSame ns → T (all_of (λ n. n.steady) ns) → map (λ n. n.under_v1) ns ≡ map (λ n. n.under_v2) ns
maps_same [] h t = refl
maps_same (n ∷ ns) h t =
    mathlib.Core.Path.ap₂ (λ (v : Bool) (vs : List Bool). v ∷ vs) (h.0 (all_of_head (λ n. n.steady) n ns t)) (maps_same ns h.1 (all_of_tail (λ n. n.steady) n ns t))

-- one pin is steady at 0, or at 1
one-zero : (ns : List Evaluation) → AllSame ns → T (one_controls (some true) ns)
    → (all_of (λ v. v) (map (λ n. n.under_v1) ns) ≡ false) × (all_of (λ v. v) (map (λ n. n.under_v2) ns) ≡ false)
one-zero [] h t = absurd t
one-zero (n ∷ ns) h t =
    ⊎_elim
    (λ (s : T (n.steady && not (Bool·beq true n.under_v2))).
    let e = h.0 (and_left n.steady (not (Bool·beq true n.under_v2)) s) in
    let z : n.under_v2 ≡ false = is_zero n.under_v2 (and_right n.steady (not (Bool·beq true n.under_v2)) s) in
    (ap (λ v. v && all_of (λ v. v) (map (λ n. n.under_v1) ns)) (e ∙ z), ap (λ v. v && all_of (λ v. v) (map (λ n. n.under_v2) ns)) z))
    (λ (s : T (one_controls (some true) ns)).
    let r = one-zero ns h.1 s in
    (ap (λ v. n.under_v1 && v) r.0 ∙ and-false n.under_v1, ap (λ v. n.under_v2 && v) r.1 ∙ and-false n.under_v2))
    (or_cases (n.steady && not (Bool·beq true n.under_v2)) (one_controls (some true) ns) t)
  where
    is_zero : (v : Bool) → T (not (Bool·beq true v)) → v ≡ false
    is_zero true t = absurd t
    is_zero false t = refl

one-one : (ns : List Evaluation) → AllSame ns → T (one_controls (some false) ns)
    → (any_of (λ v. v) (map (λ n. n.under_v1) ns) ≡ true) × (any_of (λ v. v) (map (λ n. n.under_v2) ns) ≡ true)
one-one [] h t = absurd t
one-one (n ∷ ns) h t =
    ⊎_elim
    (λ (s : T (n.steady && not (Bool·beq false n.under_v2))).
    let e = h.0 (and_left n.steady (not (Bool·beq false n.under_v2)) s) in
    let z : n.under_v2 ≡ true = is_one n.under_v2 (and_right n.steady (not (Bool·beq false n.under_v2)) s) in
    (ap (λ v. v || any_of (λ v. v) (map (λ n. n.under_v1) ns)) (e ∙ z), ap (λ v. v || any_of (λ v. v) (map (λ n. n.under_v2) ns)) z))
    (λ (s : T (one_controls (some false) ns)).
    let r = one-one ns h.1 s in
    (ap (λ v. n.under_v1 || v) r.0 ∙ or-true n.under_v1, ap (λ v. n.under_v2 || v) r.1 ∙ or-true n.under_v2))
    (or_cases (n.steady && not (Bool·beq false n.under_v2)) (one_controls (some false) ns) t)
  where
    is_one : (v : Bool) → T (not (Bool·beq false v)) → v ≡ true
    is_one true t = refl
    is_one false t = absurd t

one_same : (kind : Kind) (ns : List Evaluation) → AllSame ns → T (one_controls (non_controlling kind) ns)
    → gate_value kind (map (λ n. n.under_v1) ns) ≡ gate_value kind (map (λ n. n.under_v2) ns)
one_same buffer ns h t = absurd t
one_same inverter ns h t = absurd t
one_same and ns h t = let r = one-zero ns h t in r.0 ∙ sym r.1
one_same nand ns h t = let r = one-zero ns h t in ap not (r.0 ∙ sym r.1)
one_same or ns h t = let r = one-one ns h t in r.0 ∙ sym r.1
one_same nor ns h t = let r = one-one ns h t in ap not (r.0 ∙ sym r.1)
one_same xor ns h t = absurd t
one_same xnor ns h t = absurd t

gate_same : (kind : Kind) (ns : List Evaluation) → AllSame ns → SteadySame (gate_evaluation kind ns)
gate_same kind ns h t =
    ⊎_elim
    (λ (s : T (all_of (λ n. n.steady) ns)). ap (gate_value kind) (maps_same ns h s))
    (λ (s : T (one_controls (non_controlling kind) ns)). one_same kind ns h s)
    (or_cases (all_of (λ n. n.steady) ns) (one_controls (non_controlling kind) ns) t)

same_at : (ns : List Evaluation) → AllSame ns → (i : ℕ) → SteadySame (get_or ns i no_evaluation)
same_at [] h i t = absurd t
same_at (n ∷ ns) h zero t = h.0 t
same_at (n ∷ ns) h (suc i) t = same_at ns h.1 i t

same-pins : (ns : List Evaluation) → AllSame ns → (ps : List ℕ) → AllSame (at_nets ns no_evaluation ps)
same-pins ns h [] = tt
same-pins ns h (p ∷ ps) = (same_at ns h p, same-pins ns h ps)

same_more : (ns : List Evaluation) (n : Evaluation) → AllSame ns → SteadySame n → AllSame (ns ++ (n ∷ []))
same_more [] n h s = (s, tt)
same_more (m ∷ ns) n h s = (h.0, same_more ns n h.1 s)

same-nets : (gs : List Gate) (ns : List Evaluation) → AllSame ns → AllSame (net_by_net (λ g ns. gate_evaluation g.kind ns) no_evaluation ns gs)
same-nets [] ns h = h
same-nets (g ∷ gs) ns h =
    same-nets gs (ns ++ (gate_evaluation g.kind (at_nets ns no_evaluation g.pins) ∷ []))
    (same_more ns (gate_evaluation g.kind (at_nets ns no_evaluation g.pins)) h (gate_same g.kind (at_nets ns no_evaluation g.pins) (same-pins ns h g.pins)))

same_inputs : (v1 v2 : List Bool) (js : List ℕ) → AllSame (map (input_evaluation v1 v2) js)
same_inputs v1 v2 [] = tt
same_inputs v1 v2 (j ∷ js) = (beq→ _ _, same_inputs v1 v2 js)

pub steady-same : (N : Netlist) (v1 v2 : List Bool) (net : ℕ) → SteadySame (get_or (evaluate N v1 v2) net no_evaluation)
unfolding evaluate
steady-same N v1 v2 net =
    same_at (evaluate N v1 v2) (same-nets N.gates (map (input_evaluation v1 v2) (numbers_from 0 N.inputs)) (same_inputs v1 v2 (numbers_from 0 N.inputs))) net

-- The faults of a file's tests, and the reports on them
module _ (N : Netlist) where
  among : (recs : List (List ℕ)) (f : Fault) → T (detected_by N (map (test_of N robust) recs) f) → T (detected_by N (map (test_of N nonRobust) recs) f)
  unfolding test_of detected_by
  among [] f t = absurd t
  among (r ∷ rs) f t =
      let one = detects N (test_of N nonRobust r) f in
      let rest = detected_by N (map (test_of N nonRobust) rs) f in
      ⊎_elim
      (λ (s : T (detects N (test_of N robust r) f)). or_left one rest (robust_among-non_robust N (test_of N robust r) f s))
      (λ (s : T (detected_by N (map (test_of N robust) rs) f)). or_right one rest (among rs f s))
      (or_cases (detects N (test_of N robust r) f) (detected_by N (map (test_of N robust) rs) f) t)

  robust_report_lem : (netlist test_file report ws work : List ℕ) → read_netlist netlist ≡ value N → audit_answer netlist 2 test_file report ws work ≡ value tt
      → (f : Fault) → T (valid N f.path) → T (names N report f) → T (detected_by N (tests_of N nonRobust test_file) f)
  robust_report_lem netlist test_file report ws work e a f v t =
      among (file_records N test_file) f (((demand_3.accepted_names netlist 2 test_file report ws work a N e).names_fault f v).0 t)

  robust_report-names : (netlist test_file inClass1 inClass2 ws work : List ℕ) → read_netlist netlist ≡ value N
      → audit_answer netlist 1 test_file inClass1 ws work ≡ value tt → audit_answer netlist 2 test_file inClass2 ws work ≡ value tt
      → (f : Fault) → T (valid N f.path) → T (names N inClass2 f) → T (names N inClass1 f)
  robust_report-names netlist test_file inClass1 inClass2 ws work e a b f v t =
      ((demand_3.accepted_names netlist 1 test_file inClass1 ws work a N e).names_fault f v).1 (robust_report_lem netlist test_file inClass2 ws work e b f v t)

pub classes-true : (N : Netlist) → ClassesTrue N
classes-true N = record {
  robust_among_non_robust = robust_among-non_robust N;
  steady_same = steady-same N;
  robust_report = robust_report_lem N;
  robust_report_names = robust_report-names N;
}
