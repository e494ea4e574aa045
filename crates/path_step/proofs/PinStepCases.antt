-- One step from a net back to the net at a pin of its gate: what the functions that read the gate's record are asked.
use Rattle.model.proofs.Prelude.{ℕ, ◌≤◌, ◌<◌, ◌+◌, ◌*◌, ◌^◌, ◌≡◌, ◌∙◌, ap, sym, subst, List, length, get_or, arith}
use Rattle.model.specs.Base.{sum_of}
use Rattle.model.specs.Netlist.{Netlist}
use Rattle.netlist.specs.Tables.{CircuitTables, SomeTables, gate_part_of, pin_count_in, pin_in}
use Rattle.netlist.specs.declared.inner.Shape.{Shape}
use Rattle.netlist.proofs.TableLaws.{few-nets, gate-inside, count_at}
use Rattle.path_step.specs.Picks.{PinsIn, pin_counts_in}
use Rattle.path_step.proofs.WalkTableLaws.{pins-in, pin-low, pins-sum, pins-small}

pub step-one : (part : List ℕ) (many p : ℕ) → many ≡ get_or part 3 0 → p < many → p ≤ pin_count_in part
step-one part many p em there = omega arith

module _ (file ps cs : List ℕ) (shape : Shape) (known : SomeTables file ps cs shape) (net : ℕ) (high : net < shape.nets) where
  abbrev N : Netlist
  N = known.circuit

  abbrev t : CircuitTables N file ps cs shape
  t = known.tables

  pub step-few : net < 512
  step-few = omega (arith, few-nets t)

  module _ (low : shape.inputs ≤ net) where
    pub step-inside : get_or ps net 0 ≤ length file
    step-inside = gate-inside t net low high

    module _ (part : List ℕ) (ep : part ≡ gate_part_of file ps net) where
      pub step-pins : PinsIn part
      step-pins = subst PinsIn (sym ep) (pins-in t net low high)

      pub step-head : 3 < length part
      step-head = omega (arith, step-pins.inside)

      pub step_sum : sum_of (pin_counts_in part cs) ≤ 2 ^ 62
      step_sum = subst (λ (x : List ℕ). sum_of (pin_counts_in x cs) ≤ 2 ^ 62) (sym ep) (pins-small t net low high)

      pub step-number : (k : ℕ) → k ≤ get_or cs net 0 → k ≤ sum_of (pin_counts_in part cs)
      step-number k h =
          let sum : sum_of (pin_counts_in part cs) ≡ get_or cs net 0 =
          ap (λ (x : List ℕ). sum_of (pin_counts_in x cs)) ep ∙ pins-sum t net low high ∙ sym (count_at t net high) in
          omega (arith, sum)

      module _ (many p : ℕ) (em : many ≡ get_or part 3 0) (there : p < many) where
        pub step_room : 4 + 2 * p + 2 ≤ length part
        step_room = omega (arith, step-pins.inside)

        module _ (next : ℕ) (ex : next ≡ pin_in part p) where
          below : next < net
          below =
              let lower : (x : List ℕ) → x ≡ gate_part_of file ps net → p < pin_count_in x → pin_in x p < net =
              λ x e h. subst (λ (y : List ℕ). pin_in y p < net) (sym e) (pin-low t net low high p (subst (λ (y : List ℕ). p < pin_count_in y) e h)) in
              omega (arith, lower part ep (omega arith))

          pub step-high : next < shape.nets
          step-high = omega (arith, below)

          pub step_less : (m : ℕ) → net ≡ m → next < m
          step_less m e = omega (arith, below)
