-- The cases of the number of a partial path, by its net and its pins.
use Rattle.model.proofs.Prelude.{ℕ, ◌≤◌, ◌<◌, ◌+◌, ◌-◌, ◌≡◌, ◌∙◌, ap, sym, List, [], ◌∷◌, length, get_or, drop, take, drop_of_length-le, drop-cons}
use Rattle.model.proofs.Prelude.{arith, rules}
use mir.Val.{Fits}
use mir.Syntax.{w64}
use Rattle.model.specs.Netlist.{Netlist, nets, pins_of, pin_net}
use Rattle.model.specs.Path.{counts_before}
use Rattle.model.proofs.ReadLaws.{legal, limits}
use Rattle.netlist.specs.Tables.{CircuitTables, SomeTables, GatePart, gate_part_of, pin_count_in, pin_in}
use Rattle.netlist.specs.declared.inner.Shape.{Shape}
use Rattle.record_bytes.proofs.PartLaws.{part-rest}
use Rattle.netlist.proofs.TableLaws.{gate-part}
use Rattle.path_step.specs.Picks.{pin_counts_in}
use Rattle.path_to_number.specs.PathNumbers.{partial_number}
use Rattle.path_step.proofs.WalkTableLaws.{pin-counts}
use Rattle.path_to_number.proofs.PartialNumberLaws.{number-input, number-input-more, number_short, number-no-pin, number-none, number_more, number_small}
use Rattle.path_step.proofs.PinStepCases.{step-few, step-inside, step-pins, step-head, step_sum, step-one, step_room, step-high, step_less}

-- no pins, and a first pin with the others
no_pins : (pins : List ℕ) → length pins ≤ 0 → pins ≡ []
no_pins pins h = drop_of_length-le pins h

first-pin : (pins : List ℕ) → 0 < length pins → pins ≡ get_or pins 0 0 ∷ drop 1 pins
first-pin pins h = drop-cons pins 0 0 h

module _ (file ps cs : List ℕ) (shape : Shape) (net : ℕ) (high : net < shape.nets) (pins : List ℕ) where
  module _ (i : net < shape.inputs) where
    pub input-more : 0 < length pins → (N : Netlist) → CircuitTables N file ps cs shape → 0 ≡ partial_number N net pins
    input-more h N t =
        sym (ap (partial_number N net) (first-pin pins h) ∙ number-input-more N net (omega (arith, t.inputs_are)) (get_or pins 0 0) (drop 1 pins))

    pub input-end : length pins ≤ 0 → (N : Netlist) → CircuitTables N file ps cs shape → 1 ≡ partial_number N net pins
    input-end h N t = sym (ap (partial_number N net) (no_pins pins h) ∙ number-input N net (omega (arith, t.inputs_are)))

  module _ (low : shape.inputs ≤ net) where
    pub gate-end : length pins < 1 → (N : Netlist) → CircuitTables N file ps cs shape → 0 ≡ partial_number N net pins
    gate-end h N t = sym (ap (partial_number N net) (no_pins pins (omega arith)) ∙ number_short N net (omega (arith, t.inputs_are)))

    module _ (long : 1 ≤ length pins) (part : List ℕ) (ep : part ≡ gate_part_of file ps net) (pin many : ℕ) (ei : pin ≡ get_or pins 0 0) (em : many ≡ get_or part 3 0) where
      module _ (N : Netlist) (t : CircuitTables N file ps cs shape) where
        gate : GatePart (gate_part_of file ps net) N net
        gate = gate-part t net low high

        pins-are : pins ≡ pin ∷ drop 1 pins
        pins-are = first-pin pins (omega arith) ∙ ap (λ k. k ∷ drop 1 pins) (sym ei)

        many_is : many ≡ length (pins_of N net)
        many_is = em ∙ ap pin_count_in ep ∙ gate.pin_count

        by-pin : (r : ℕ) → partial_number N net (pin ∷ drop 1 pins) ≡ r → r ≡ partial_number N net pins
        by-pin r e = sym (ap (partial_number N net) pins-are ∙ e)

      pub no_pin : many ≤ pin → (N : Netlist) → CircuitTables N file ps cs shape → 0 ≡ partial_number N net pins
      no_pin h N t = by-pin N t 0 (number-no-pin N net (omega (arith, t.inputs_are)) pin (drop 1 pins) (omega (arith, many_is N t)))

      module _ (there : pin < many) (next : ℕ) (ex : next ≡ pin_in part pin) (rest : ℕ)
          (er : (N : Netlist) → CircuitTables N file ps cs shape → rest ≡ partial_number N next (take (length pins - 1) (drop 1 pins))) where
        rest-is : (N : Netlist) → CircuitTables N file ps cs shape → rest ≡ partial_number N (pin_net N net pin) (drop 1 pins)
        rest-is N t =
            let g = gate N t in
            let next-is : next ≡ pin_net N net pin = ex ∙ ap (λ (x : List ℕ). pin_in x pin) ep ∙ g.pin_is pin (omega (arith, many_is N t, g.pin_count)) in
            er N t ∙ ap (partial_number N next) (part-rest 1 pins) ∙ ap (λ n. partial_number N n (drop 1 pins)) next-is

        pub no-rest : rest ≡ 0 → (N : Netlist) → CircuitTables N file ps cs shape → 0 ≡ partial_number N net pins
        no-rest z N t =
            by-pin N t 0
            (number-none N net (omega (arith, t.inputs_are)) pin (drop 1 pins) (omega (arith, many_is N t)) (legal file N t.legal) (omega (arith, t.nets_are)) rest
            (rest-is N t) z)

        module _ (some : rest ≡ 0 → ⊥) (b : ℕ) (eb : b ≡ counts_before pin (pin_counts_in part cs)) where
          pub whole-number : (N : Netlist) → CircuitTables N file ps cs shape → rest + b ≡ partial_number N net pins
          whole-number N t =
              let before : b ≡ counts_before pin (Rattle.model.specs.Netlist.pin_counts N net) =
              eb ∙ ap (λ (x : List ℕ). counts_before pin (pin_counts_in x cs)) ep ∙ ap (counts_before pin) (pin-counts t net low high) in
              by-pin N t (rest + b)
              (number_more N net (omega (arith, t.inputs_are)) pin (drop 1 pins) (omega (arith, many_is N t)) (legal file N t.legal) (omega (arith, t.nets_are)) rest
              (rest-is N t) some ∙ ap (λ k. rest + k) (sym before))

          pub whole-fits : SomeTables file ps cs shape → Fits w64 (rest + b)
          whole-fits known =
              let N = known.circuit in
              let t = known.tables in
              let high-enough : net < nets N = omega (arith, t.nets_are) in
              record { fits = omega (arith, whole-number N t, number_small N (legal file N t.legal) net pins high-enough, (limits file N t.legal).counts_fit net) }

pub ruleset number-cases = (
  step-few,
  step-inside,
  step-pins,
  step-head,
  step_sum,
  step-one,
  step_room,
  step-high,
  step_less,
  input-more,
  input-end,
  gate-end,
  no_pin,
  no-rest,
  whole-number,
  whole-fits,
  rules,
)
