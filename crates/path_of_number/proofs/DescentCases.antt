-- The cases of the path of a number, by its net.
use Rattle.model.proofs.Prelude.{ℕ, ◌≤◌, ◌<◌, ◌+◌, ◌≡◌, ◌∙◌, ap, refl, sym, ap₂, List, [], ◌∷◌, length, get_or, set, length-set, add-one, arith, rules}
use mir.Val.{Fits}
use mir.Syntax.{w16}
use Rattle.model.specs.Netlist.{Netlist, nets, counts, pin_net, pin_counts}
use Rattle.model.specs.Path.{split, path_at}
use Rattle.model.proofs.NumberLaws.{path_at-input}
use Rattle.model.proofs.ReadLaws.{legal}
use Rattle.model.proofs.WellFormed.{WellFormed}
use Rattle.netlist.specs.Tables.{CircuitTables, SomeTables, GatePart, gate_part_of, pin_in}
use Rattle.netlist.specs.declared.inner.Shape.{Shape}
use Rattle.netlist.proofs.TableLaws.{gate-part, count_at}
use Rattle.path_step.specs.declared.inner.pins.Pick.{Pick}
use Rattle.path_step.specs.Picks.{pin_counts_in, pick_pin_of}
use Rattle.path_of_number.specs.Tasks.{PinsWritten}
use Rattle.path_step.proofs.WalkTableLaws.{pin-counts}
use Rattle.path_of_number.proofs.PartialLaws.{pin-is-one, pin-below, there-low, there-high, path-step}
use Rattle.path_step.proofs.PinStepCases.{step-few, step-inside, step-pins, step-number}

-- an input's path has no pins
pub input-words : (file ps cs : List ℕ) (shape : Shape) (net number at : ℕ) (path : List ℕ) → net < shape.inputs
    → (N : Netlist) → CircuitTables N file ps cs shape → PinsWritten N net number at at path path
input-words file ps cs shape net number at path i N t =
    let none : path_at N net net number ≡ [] = path_at-input N (legal file N t.legal) net net number (omega (arith, t.inputs_are)) in
    record { end_is = rw none (omega arith); words_are = rw none refl }

module _ (file ps cs : List ℕ) (shape : Shape) (net number : ℕ) (high : net < shape.nets) (low : shape.inputs ≤ net) (some : 1 ≤ number)
    (small : number ≤ get_or cs net 0) (part : List ℕ) (ep : part ≡ gate_part_of file ps net) (p : Pick) (e : p ≡ pick_pin_of part cs number) where
  module _ (N : Netlist) (t : CircuitTables N file ps cs shape) where
    w : WellFormed N
    w = legal file N t.legal

    i : N.inputs ≤ net
    i = omega (arith, t.inputs_are)

    l : net < nets N
    l = omega (arith, t.nets_are)

    b : number ≤ get_or (counts N) net 0
    b = omega (arith, count_at t net high)

    gate : GatePart (gate_part_of file ps net) N net
    gate = gate-part t net low high

    counts-are : pin_counts_in part cs ≡ pin_counts N net
    counts-are = ap (λ (x : List ℕ). pin_counts_in x cs) ep ∙ pin-counts t net low high

    pub pin-is : p.pin ≡ (split (pin_counts N net) number).0
    unfolding pick_pin_of
    pin-is = ap (λ (x : Pick). x.pin) e ∙ ap (λ (x : List ℕ). (split x number).0) counts-are

    pub number_is : p.number ≡ (split (pin_counts N net) number).1
    unfolding pick_pin_of
    number_is = ap (λ (x : Pick). x.number) e ∙ ap (λ (x : List ℕ). (split x number).1) counts-are

    pub one : p.pin < length (Rattle.model.specs.Netlist.pins_of N net)
    one = omega (arith, pin-is, pin-is-one N w net number i l some b)

    pub net-is : p.net ≡ pin_net N net (split (pin_counts N net) number).0
    unfolding pick_pin_of
    net-is =
        ap (λ (x : Pick). x.net) e ∙ ap₂ (λ (x : List ℕ) k. pin_in x k) ep (sym (ap (λ (x : Pick). x.pin) e))
        ∙ gate.pin_is p.pin (omega (arith, one, gate.pin_count)) ∙ ap (pin_net N net) pin-is

    pub below : p.net < net
    below = omega (arith, net-is, pin-below N w net number i l some b)

    number-low : 1 ≤ p.number
    number-low = omega (arith, number_is, there-low N w net number i l some b)

    number-high : p.number ≤ get_or cs p.net 0
    number-high = omega (
      arith,
      number_is,
      there-high N w net number i l some b,
      count_at t p.net (omega (arith, below)),
      ap (λ n. get_or (counts N) n 0) net-is,
    )

    step : path_at N net net number ≡ p.pin ∷ path_at N p.net p.net p.number
    step = path-step N w net number i l some b ∙ sym (λ k. pin-is k ∷ path_at N (net-is k) (net-is k) (number_is k))

  module _ (known : SomeTables file ps cs shape) where
    pub pick-few : Fits w16 p.pin
    pick-few = record { fits = omega (arith, one known.circuit known.tables, (gate known.circuit known.tables).few_pins, (gate known.circuit known.tables).pin_count) }

    pub pick-high : p.net < shape.nets
    pick-high = omega (arith, below known.circuit known.tables)

    pub pick_less : (m : ℕ) → net ≡ m → p.net < m
    pick_less m h = omega (arith, below known.circuit known.tables)

    pub pick-low-number : 1 ≤ p.number
    pick-low-number = number-low known.circuit known.tables

    pub pick-high-number : p.number ≤ get_or cs p.net 0
    pick-high-number = number-high known.circuit known.tables

    module _ (path : List ℕ) (at : ℕ) (room : at + net ≤ length path) where
      pub step-write : at < length path
      step-write = omega (arith, below known.circuit known.tables)

      pub step_room : at + 1 + p.net ≤ length (set path at p.pin)
      step_room = omega (arith, below known.circuit known.tables, length-set path at p.pin)

  pub step_words : (path now : List ℕ) (at end : ℕ)
      → ((N : Netlist) → CircuitTables N file ps cs shape → PinsWritten N p.net p.number (at + 1) end (set path at p.pin) now)
      → (N : Netlist) → CircuitTables N file ps cs shape → PinsWritten N net number at end path now
  step_words path now at end f N t = record {
    end_is = (f N t).end_is ∙ rw (step N t) (omega arith);
    words_are = (f N t).words_are ∙ rw (step N t, add-one at) refl;
  }

pub kept-length : (path now : List ℕ) (at k : ℕ) → length now ≡ length (set path at k) → length now ≡ length path
kept-length path now at k h = h ∙ length-set path at k

pub ruleset descend-cases = (
  step-few,
  step-inside,
  step-pins,
  step-number,
  input-words,
  pick-few,
  pick-high,
  pick_less,
  pick-low-number,
  pick-high-number,
  step-write,
  step_room,
  step_words,
  kept-length,
  rules,
)
