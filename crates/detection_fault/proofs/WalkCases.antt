-- The cases of the walk along a path: what is open from the net at hand on is what is open from the first net on.
use Rattle.model.proofs.Prelude.{ℕ, ◌≤◌, ◌<◌, ◌≡◌, ◌∙◌, ap, refl, sym, true, Bool, false, ◌&&◌, not, List, length, get_or, arith, rules, not-true}
use Rattle.model.proofs.Prelude.{not-false}
use Rattle.model.specs.Base.{bit, sum_of}
use Rattle.model.specs.Netlist.{Netlist, nets}
use Rattle.model.specs.Path.{path_at}
use Rattle.model.specs.Detect.{all_open}
use Rattle.model.proofs.AnswerLaws.{value_inj}
use Rattle.model.proofs.NumberLaws.{path_at-input}
use Rattle.model.proofs.ReadLaws.{legal, limits}
use Rattle.model.proofs.WellFormed.{WellFormed}
use Rattle.netlist.specs.Tables.{CircuitTables, SomeTables, gate_part_of}
use Rattle.netlist.specs.declared.inner.Shape.{Shape}
use Rattle.netlist.proofs.TableLaws.{gate-part, gate-inside, few-nets, count_at}
use Rattle.path_step.specs.Picks.{PinsIn, pin_counts_in, pick_pin_of}
use Rattle.path_step.specs.declared.inner.pins.Pick.{Pick}
use Rattle.path_step.proofs.PinStepCases.{step-pins, step-number}
use Rattle.path_of_number.proofs.DescentCases.{pin-is, number_is, one, net-is, below, pick-low-number, pick-high-number}
use Rattle.path_of_number.proofs.PartialLaws.{path-step}
use Rattle.detection_fault.specs.OpenPaths.{open_in, open_at}

pub record Walking (file ps cs masks : List ℕ) (moved net number inputs at rest : ℕ) : Type 0 where
  pub shape : Shape
  pub circuit : Netlist
  pub tables : CircuitTables circuit file ps cs shape
  pub inputs_are : inputs ≡ shape.inputs
  pub high : at < shape.nets
  pub some : 1 ≤ rest
  pub small : rest ≤ get_or cs at 0
  pub whole : open_at circuit masks moved at rest ≡ open_at circuit masks moved net number

module _ {file ps cs masks : List ℕ} {moved net number : ℕ} where
  pub walk_start : (shape : Shape) → SomeTables file ps cs shape → net < shape.nets → 1 ≤ number → number ≤ get_or cs net 0
      → Walking file ps cs masks moved net number shape.inputs net number
  walk_start shape known high some small = record {
    shape = shape;
    circuit = known.circuit;
    tables = known.tables;
    inputs_are = refl;
    high = high;
    some = some;
    small = small;
    whole = refl;
  }

  module _ {inputs at rest : ℕ} (d : Walking file ps cs masks moved net number inputs at rest) where
    abbrev N : Netlist
    N = d.circuit

    abbrev t : CircuitTables N file ps cs d.shape
    t = d.tables

    w : WellFormed N
    w = legal file N t.legal

    known-tables : SomeTables file ps cs d.shape
    known-tables = record { circuit = N; tables = t }

    -- the answer for the circuit at hand is that for every netlist that has these tables
    every : (b : Bool) → b ≡ open_at N masks moved at rest → (shape : Shape) (M : Netlist) → CircuitTables M file ps cs shape → b ≡ open_at M masks moved net number
    every b e shape M u = e ∙ d.whole ∙ ap (λ (K : Netlist). open_at K masks moved net number) (value_inj (sym t.legal ∙ u.legal))

    pub walk-few : at < 512
    walk-few = omega (arith, few-nets t, d.high)

    -- At a gate
    module _ (gate : inputs ≤ at) where
      low : d.shape.inputs ≤ at
      low = omega (arith, d.inputs_are)

      pub walk_inside : get_or ps at 0 ≤ length file
      walk_inside = gate-inside t at low d.high

      module _ (part : List ℕ) (ep : part ≡ gate_part_of file ps at) where
        pub walk-pins : PinsIn part
        walk-pins = step-pins file ps cs d.shape known-tables at d.high low part ep

        pub walk-number : rest ≤ sum_of (pin_counts_in part cs)
        walk-number = step-number file ps cs d.shape known-tables at d.high low part ep rest d.small

        module _ (p : Pick) (e : p ≡ pick_pin_of part cs rest) where
          pub walk-pin : p.pin < 64
          walk-pin =
              let there = one file ps cs d.shape at rest d.high low d.some d.small part ep p e N t in
              let g = gate-part t at low d.high in
              omega (arith, there, g.pin_count, g.few_pins)

          pub walk-less : p.net < at
          walk-less = below file ps cs d.shape at rest d.high low d.some d.small part ep p e N t

          -- the first pin of the path, and the rest of it
          step : open_at N masks moved at rest ≡ bit (get_or masks at 0) p.pin && open_at N masks moved p.net p.number
          unfolding open_at all_open
          step =
              let pin = pin-is file ps cs d.shape at rest d.high low d.some d.small part ep p e N t in
              let number = number_is file ps cs d.shape at rest d.high low d.some d.small part ep p e N t in
              let there = net-is file ps cs d.shape at rest d.high low d.some d.small part ep p e N t in
              let path = path-step N w at rest (omega (arith, t.inputs_are)) (omega (arith, t.nets_are, d.high)) d.some
              (omega (arith, d.small, count_at t at d.high)) in
              ap (all_open N (open_in masks) (bit moved) at) path
              ∙ sym (λ k. bit (get_or masks at 0) (pin k) && all_open N (open_in masks) (bit moved) (there k) (path_at N (there k) (there k) (number k)))

          module _ (mask : ℕ) (em : mask ≡ get_or masks at 0) (b : Bool) (eb : b ≡ bit mask p.pin) where
            is-bit : b ≡ bit (get_or masks at 0) p.pin
            is-bit = eb ∙ ap (λ m. bit m p.pin) em

            pub walk-shut : not b ≡ true → (shape : Shape) (M : Netlist) → CircuitTables M file ps cs shape → false ≡ open_at M masks moved net number
            walk-shut z =
                let s : bit (get_or masks at 0) p.pin ≡ false = sym is-bit ∙ not-true b z in
                every false (sym (step ∙ rw s refl))

            pub walk-next : not b ≡ false → Walking file ps cs masks moved net number inputs p.net p.number
            walk-next z = record {
              shape = d.shape;
              circuit = N;
              tables = t;
              inputs_are = d.inputs_are;
              high = omega (arith, walk-less, d.high);
              some = pick-low-number file ps cs d.shape at rest d.high low d.some d.small part ep p e known-tables;
              small = pick-high-number file ps cs d.shape at rest d.high low d.some d.small part ep p e known-tables;
              whole =
                  let s : bit (get_or masks at 0) p.pin ≡ true = sym is-bit ∙ not-false b z in
                  sym (step ∙ rw s refl) ∙ d.whole;
            }

    -- At an input
    module _ (input : at < inputs) where
      pub walk-input : at < 64
      walk-input = omega (arith, d.inputs_are, t.inputs_are, (limits file N t.legal).few_inputs)

      pub walk_end : (b : Bool) → b ≡ bit moved at → (shape : Shape) (M : Netlist) → CircuitTables M file ps cs shape → b ≡ open_at M masks moved net number
      unfolding open_at all_open
      walk_end b e =
          let i : at < N.inputs = omega (arith, d.inputs_are, t.inputs_are) in
          every b (e ∙ sym (ap (all_open N (open_in masks) (bit moved) at) (path_at-input N w at at rest i)))

pub ruleset walk-cases = (walk_start, walk-few, walk_inside, walk-pins, walk-number, walk-pin, walk-less, walk-shut, walk-next, walk-input, walk_end, rules)
