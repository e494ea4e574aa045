-- A list built net by net: what it holds at each net.
use Rattle.model.proofs.Prelude.{ℕ, ◌≤◌, ◌<◌, ◌+◌, ◌-◌, suc, zero, ◌≡◌, ◌∙◌, ap, refl, sym, subst, ap₂, true, Bool, false, List, [], ◌∷◌, ◌++◌}
use Rattle.model.proofs.Prelude.{map, length, get_or, length-append, replicate, length-map, length-replicate, get_or-replicate, List·getD-append}
use Rattle.model.proofs.Prelude.{T, ltb, ltb→lt, lt→ltb, not-suc-le-zero, le_of_suc-le-suc, zero-add, add-zero, suc-add, arith, lt-leb}
use native.Mathlib.Nat.{add-suc}
use lib.Seq.{get_or-append_seam}
use Rattle.model.specs.Base.{all_of, sum_of, numbers_from}
use Rattle.model.specs.Netlist.{Netlist, Gate, no_gate, net_by_net, at_nets, counts, gate_count, output_count, pins_of, nets, gate_of}
use Rattle.model.specs.Detect.{Evaluation, no_evaluation, input_evaluation, gate_evaluation, evaluate, pin_evaluations}
use Rattle.model.proofs.ListLaws.{all_of_head, all_of_tail, get_d_map-in, length-numbers_from, numbers_from-at}
use Rattle.model.proofs.WellFormed.{lower}
use Rattle.model.proofs.BoolLaws.{and_left, and_right, T→true}

module _ {A : Type 0} (f : Gate → List A → A) (d : A) where
  -- one more value
  longer : List A → Gate → List A
  longer xs g = xs ++ (f g (at_nets xs d g.pins) ∷ [])

  length-longer : (xs : List A) (g : Gate) → length (longer xs g) ≡ suc (length xs)
  unfolding longer
  length-longer xs g = simp (length-append, native.Mathlib.Numerals.add-one)

  pub length-net_by_net : (gs : List Gate) (xs : List A) → length (net_by_net f d xs gs) ≡ length xs + length gs
  unfolding longer
  length-net_by_net [] xs = sym (add-zero _)
  length-net_by_net (g ∷ gs) xs = length-net_by_net gs (longer xs g) ∙ rw length-longer (suc-add _ _ ∙ sym (add-suc _ _))

  -- the values there already stay
  pub kept : (gs : List Gate) (xs : List A) (i : ℕ) → i < length xs → get_or (net_by_net f d xs gs) i d ≡ get_or xs i d
  unfolding longer
  kept [] xs i h = refl
  kept (g ∷ gs) xs i h = kept gs (longer xs g) i (omega (arith, length-longer xs g)) ∙ List·getD-append xs _ d i h

  pub at_nets-same : (xs ys : List A) (m : ℕ) → ((i : ℕ) → i < m → get_or xs i d ≡ get_or ys i d)
      → (ps : List ℕ) → T (all_of (λ n. ltb n m) ps) → at_nets xs d ps ≡ at_nets ys d ps
  at_nets-same xs ys m h [] t = refl
  at_nets-same xs ys m h (p ∷ ps) t = ap₂ (λ a r. a ∷ r) (h p (ltb→lt p m (all_of_head (λ n. ltb n m) p ps t))) (at_nets-same xs ys m h ps (all_of_tail (λ n. ltb n m) p ps t))

  -- a gate's value comes from the final values at its pins
  pub at-gate : (gs : List Gate) (xs : List A) → T (lower (length xs) gs) → (j : ℕ) → j < length gs
      → get_or (net_by_net f d xs gs) (length xs + j) d ≡ f (get_or gs j no_gate) (at_nets (net_by_net f d xs gs) d (get_or gs j no_gate).pins)
  unfolding longer lower
  at-gate [] xs t j h = absurd (not-suc-le-zero h)
  at-gate (g ∷ gs) xs t zero h =
      ap (λ i. get_or (net_by_net f d (longer xs g) gs) i d) (add-zero (length xs))
      ∙ kept gs (longer xs g) (length xs) (omega (arith, length-longer xs g))
      ∙ get_or-append_seam xs _ [] d
      ∙ ap (f g) (at_nets-same xs (net_by_net f d xs (g ∷ gs)) (length xs) (λ i hi. sym (kept (g ∷ gs) xs i hi)) g.pins
      (and_left (all_of (λ n. ltb n (length xs)) g.pins) (lower (suc (length xs)) gs) t))
  at-gate (g ∷ gs) xs t (suc j) h =
      ap (λ i. get_or (net_by_net f d (longer xs g) gs) i d) (omega (arith, length-longer xs g))
      ∙ at-gate gs (longer xs g)
      (subst (λ m. T (lower m gs)) (sym (length-longer xs g)) (and_right (all_of (λ n. ltb n (length xs)) g.pins) (lower (suc (length xs)) gs) t))
      j (le_of_suc-le-suc h)

-- The counts: 1 at an input, the sum over its pins at a gate
pub length-counts : (N : Netlist) → length (counts N) ≡ nets N
unfolding counts
length-counts N = length-net_by_net gate_count 0 N.gates (replicate N.inputs 1) ∙ rw length-replicate

pub count-input : (N : Netlist) (net : ℕ) → net < N.inputs → get_or (counts N) net 0 ≡ 1
unfolding counts
count-input N net h =
    kept gate_count 0 N.gates (replicate N.inputs 1) net (omega (arith, length-replicate {A = ℕ} N.inputs 1))
    ∙ get_or-replicate N.inputs net 1 0 h

pub count-gate : (N : Netlist) → T (lower N.inputs N.gates) → (net : ℕ) → N.inputs ≤ net → net < nets N
    → get_or (counts N) net 0 ≡ sum_of (at_nets (counts N) 0 (pins_of N net))
unfolding counts
count-gate N t net h l =
    ap (λ i. get_or (counts N) i 0) (omega (arith, length-replicate {A = ℕ} N.inputs 1))
    ∙ at-gate gate_count 0 N.gates (replicate N.inputs 1) (rw length-replicate t) (net - N.inputs) (omega arith)

-- The paths that end at an output: none at an input net, the count of the net at a gate's
pub output-count-wire : (inputs : ℕ) (cs : List ℕ) (net : ℕ) → net < inputs → output_count inputs cs net ≡ 0
unfolding output_count
output-count-wire inputs cs net h = rw (T→true (ltb net inputs) (lt→ltb net inputs h), output_count) refl

pub output-count-gate : (inputs : ℕ) (cs : List ℕ) (net : ℕ) → inputs ≤ net → output_count inputs cs net ≡ get_or cs net 0
unfolding output_count
output-count-gate inputs cs net h = rw (lt-leb (suc net) inputs (omega arith), output_count) refl

-- from a count under another name
pub output-count-same : {i j : ℕ} (cs ds : List ℕ) (net : ℕ) → i ≡ j → get_or cs net 0 ≡ get_or ds net 0 → output_count i cs net ≡ output_count j ds net
unfolding output_count
output-count-same cs ds net e d = ap₂ {C = ℕ} (λ k c. elim (ltb net k) [ true ↦ 0 | false ↦ c ]) e d

-- The evaluation: the vectors at an input, the gate's function of its pins at a gate
module _ (N : Netlist) (v1 v2 : List Bool) where
  abbrev input_nets : List Evaluation
  input_nets = map (input_evaluation v1 v2) (numbers_from 0 N.inputs)

  length-inputs : length input_nets ≡ N.inputs
  length-inputs = length-map (numbers_from 0 N.inputs) (input_evaluation v1 v2) ∙ length-numbers_from 0 N.inputs

  pub evaluate-input : (net : ℕ) → net < N.inputs → get_or (evaluate N v1 v2) net no_evaluation ≡ input_evaluation v1 v2 net
  unfolding evaluate
  evaluate-input net i =
      kept (λ g ns. gate_evaluation g.kind ns) no_evaluation N.gates input_nets net (omega (arith, length-inputs))
      ∙ get_d_map-in (input_evaluation v1 v2) (numbers_from 0 N.inputs) net 0 no_evaluation (omega (arith, length-numbers_from 0 N.inputs))
      ∙ ap (input_evaluation v1 v2) (numbers_from-at N.inputs 0 net i ∙ zero-add net)

  pub evaluate-gate : T (lower N.inputs N.gates) → (net : ℕ) → N.inputs ≤ net → net < nets N
      → get_or (evaluate N v1 v2) net no_evaluation ≡ gate_evaluation (gate_of N net).kind (pin_evaluations N v1 v2 net)
  unfolding evaluate
  evaluate-gate t net i l =
      ap (λ k. get_or (evaluate N v1 v2) k no_evaluation) (omega (arith, length-inputs))
      ∙ at-gate (λ g ns. gate_evaluation g.kind ns) no_evaluation N.gates input_nets (subst (λ m. T (lower m N.gates)) (sym length-inputs) t) (net - N.inputs) (omega arith)
