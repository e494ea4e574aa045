-- The states of the nets and the open pins of the gates, net by net.
use Rattle.model.proofs.Prelude.{ℕ, ◌≤◌, ◌<◌, ◌+◌, ◌*◌, suc, ◌^◌, ◌≡◌, ◌∙◌, ap, refl, sym, subst, ap₂, Bool·beq, List, [], ◌∷◌, map, length, get_or}
use Rattle.model.proofs.Prelude.{set, length-set, replicate, length-replicate, arith, rules}
use mir.Syntax.{w64}
use mir.Val.{Fits}
use Rattle.model.specs.Base.{bit}
use Rattle.model.specs.Netlist.{Netlist, nets, gate_of, pins_of}
use Rattle.model.specs.Detect.{Test, Evaluation, no_evaluation, evaluate, pin_evaluations, gate_evaluation, is_open, open_pin}
use Rattle.model.specs.Read.{kind_of, class_of}
use Rattle.model.proofs.WellFormed.{WellFormed}
use Rattle.model.proofs.ReadLaws.{legal}
use Rattle.model.proofs.NetLaws.{evaluate-input, evaluate-gate}
use Rattle.netlist.specs.Tables.{CircuitTables, SomeCircuit, GatePart, kind_in, pin_count_in, gate_part_of}
use Rattle.netlist.specs.declared.inner.Shape.{Shape}
use Rattle.netlist.proofs.TableLaws.{few-inputs, few-nets, inputs-below, gate-part, gate-inside}
use Rattle.gate_packed_pins.specs.Packed.{PackedPins}
use Rattle.gate_logic.specs.States.{state_of, word_of, pins_in, PackedStates}
use Rattle.single_simulation.specs.StateWords.{low_lane, mid_lane, high_lane, state_in, IsState, StatesAt, states_at, PacksStates}
use Rattle.single_simulation.specs.Simulated.{TestIs, InputStates, MasksTo, OpenMasks}
use Rattle.gate_logic.specs.declared.inner.PinStates.{PinStates}
use Rattle.single_simulation.proofs.PackStates.{word-form, word_back, packed-fits}
use Rattle.single_simulation.proofs.InputCases.{set-each, set_more}

-- two functions that agree below `top`, at pins below it
map_same : {B : Type 0} (f g : ℕ → B) (top : ℕ) → ((i : ℕ) → i < top → f i ≡ g i)
    → (ps : List ℕ) → ((p : ℕ) → p < length ps → get_or ps p 0 < top) → map f ps ≡ map g ps
map_same f g top h [] l = refl
map_same {B} f g top h (p ∷ ps) l =
    ap₂ (λ x (y : List B). x ∷ y) (h p (l 0 (omega arith))) (map_same f g top h ps (λ q m. l (suc q) (omega arith)))

-- what evaluating a net of a test yields
abbrev evaluated : Netlist → Test → ℕ → Evaluation
evaluated N t net = get_or (evaluate N t.v1 t.v2) net no_evaluation

abbrev at_pins : Netlist → Test → ℕ → List Evaluation
at_pins N t net = pin_evaluations N t.v1 t.v2 net

-- the states at the pins of a gate, as the code holds them
abbrev pub held : List ℕ → PinStates → List Evaluation
held part v = pins_in (pin_count_in part) v.v1 v.v2 v.steady

-- One gate, whose record the part begins with
module _ {part : List ℕ} {N : Netlist} {net : ℕ} (g : GatePart part N net) where
  states-ready : {array : List ℕ} → net ≤ 512 → ((i : ℕ) → IsState (get_or array i 0)) → StatesAt part (pin_count_in part) array
  states-ready few b = record {
    few = g.few_pins;
    inside = g.inside;
    is_net = λ p h. omega (arith, g.pin_is p h, g.lower p h);
    states = b;
  }

  packed-ready : {packed : ℕ} → packed < 2 ^ pin_count_in part → PackedPins (kind_in part) (pin_count_in part) packed
  packed-ready h = record { low_kind = g.low_kind; high_kind = g.high_kind; fits = g.fits; small = h }

  -- its net and its open pins under a test, by the states of the nets before it
  module _ (w : WellFormed N) (low : N.inputs ≤ net) (high : net < nets N) (t : Test) {array : List ℕ} {packed : ℕ}
      (k : PacksStates part (pin_count_in part) array packed) (same : (i : ℕ) → i < net → state_in (get_or array i 0) ≡ evaluated N t i) (v : PinStates)
      (held-is : held part v ≡ pins_in (pin_count_in part) (mid_lane packed) (low_lane packed) (high_lane packed)) where
    pins-are : held part v ≡ at_pins N t net
    pins-are =
        held-is ∙ k.states ∙ ap (states_at array) g.pins_are
        ∙ map_same (λ i. state_in (get_or array i 0)) (evaluated N t) net same (pins_of N net) (λ p h. g.lower p (omega (arith, g.pin_count)))

    mask_right : (class mask : ℕ) → t.class ≡ class_of class
        → ((p : ℕ) → p < pin_count_in part → bit mask p ≡ is_open (class_of class) (kind_of (kind_in part)) (held part v) p)
        → (p : ℕ) → p < length (pins_of N net) → bit mask p ≡ open_pin N t net p
    unfolding open_pin
    mask_right class mask e o p h =
        o p (omega (arith, g.pin_count))
        ∙ ap₂ (λ kind (ns : List Evaluation). is_open (class_of class) kind ns p) g.kind_is pins-are
        ∙ ap (λ c. is_open c (gate_of N net).kind (at_pins N t net) p) (sym e)

    state-right : {word : ℕ} → word ≡ word_of (gate_evaluation (kind_of (kind_in part)) (held part v)) → state_in word ≡ evaluated N t net
    state-right o =
        ap state_in o ∙ word_back (gate_evaluation (kind_of (kind_in part)) (held part v))
        ∙ ap₂ (λ kind (ns : List Evaluation). gate_evaluation kind ns) g.kind_is pins-are
        ∙ sym (evaluate-gate N t.v1 t.v2 w.lower_pins net low high)

-- the states and the open pins of the nets before `net` are right
record SimulatedTo (N : Netlist) (t : Test) (net : ℕ) (array masks : List ℕ) : Type 0 where
  same : (i : ℕ) → i < net → state_in (get_or array i 0) ≡ evaluated N t i
  opens : MasksTo N t net masks

-- for every netlist that the bytes are, and every test that the words are
pub record Simulating (file ps : List ℕ) (shape : Shape) (class first last : ℕ) (array masks : List ℕ) (net : ℕ) : Type 0 where
  pub from_inputs : shape.inputs ≤ net
  pub to_nets : net ≤ shape.nets
  pub state_room : length array ≡ 512
  pub mask_room : length masks ≡ 512
  pub each : (i : ℕ) → IsState (get_or array i 0)
  right : (N : Netlist) (cs : List ℕ) (t : Test) → CircuitTables N file ps cs shape → TestIs N t class first last → SimulatedTo N t net array masks

module _ {file ps : List ℕ} {shape : Shape} (s : SomeCircuit file ps shape) where
  pub nets-few : shape.nets ≤ 512
  nets-few = few-nets s.known.tables

  pub inputs-few : shape.inputs ≤ 64
  inputs-few = few-inputs s.known.tables

  pub sim_start : {class first last : ℕ} {array : List ℕ} → InputStates first last shape.inputs array
      → Simulating file ps shape class first last array (replicate 512 0) shape.inputs
  sim_start b = record {
    from_inputs = omega arith;
    to_nets = inputs-below s.known.tables;
    state_room = b.room;
    mask_room = length-replicate {A = ℕ} 512 0;
    each = b.each;
    right = λ N cs t c x. record {
      same = λ i h.
          let j : i < N.inputs = omega (arith, c.inputs_are) in
          b.same i h
          ∙ ap₂ {C = Evaluation} (λ a b. state_of a b (Bool·beq a b)) (x.first_is.bits i j) (x.last_is.bits i j)
          ∙ sym (evaluate-input N t.v1 t.v2 i j);
      opens = record { opens = λ net p l h. absurd (omega (arith, c.inputs_are)) };
    };
  }

  module _ {class first last : ℕ} {array masks : List ℕ} {net : ℕ} (x : Simulating file ps shape class first last array masks net) (t : net < shape.nets) where
    pub below-512 : net < 512
    below-512 = omega (arith, nets-few)

    pub entry_place : Fits w64 (net * 4)
    entry_place = record { fits = omega (arith, below-512) }

    pub position_inside : get_or ps net 0 ≤ length file
    position_inside = gate-inside s.known.tables net x.from_inputs t

    module _ {part : List ℕ} (e : part ≡ gate_part_of file ps net) where
      -- the gate of any netlist that was read so
      gate-of : {N : Netlist} {cs : List ℕ} → CircuitTables N file ps cs shape → GatePart part N net
      gate-of {N} c = subst (λ (y : List ℕ). GatePart y N net) (sym e) (gate-part c net x.from_inputs t)

      gate-here : GatePart part s.known.circuit net
      gate-here = gate-of s.known.tables

      pub kind-inside : 2 < length part
      kind-inside = omega (arith, gate-here.inside)

      pub pins-inside : 3 < length part
      pins-inside = omega (arith, gate-here.inside)

      -- the code's number of pins is the record's
      module _ {pins : ℕ} (q : pins ≡ pin_count_in part) where
        pub gate-states : StatesAt part pins array
        gate-states = subst (λ n. StatesAt part n array) (sym q) (states-ready gate-here (omega (arith, below-512)) x.each)

        pub packed-small : {packed : ℕ} → PacksStates part pins array packed → packed < 16777216
        packed-small k = packed-fits (omega (arith, gate-here.few_pins)) k

      module _ {pins packed : ℕ} (q : pins ≡ pin_count_in part) (packs : PacksStates part pins array packed) {v : PinStates}
          (lanes : (v.v2 ≡ low_lane packed) × (v.v1 ≡ mid_lane packed) × (v.steady ≡ high_lane packed)) where
        k : PacksStates part (pin_count_in part) array packed
        k = subst (λ n. PacksStates part n array packed) q packs

        pub states-packed : PackedStates (kind_in part) (pin_count_in part) v
        states-packed = record {
          first = packed-ready gate-here (rw lanes.1 k.mid);
          last = packed-ready gate-here (rw lanes.0 k.low);
          calm = packed-ready gate-here (rw lanes.2 k.high);
        }

        -- One net more
        pub sim_step : (mask : ℕ) → ((p : ℕ) → p < pin_count_in part → bit mask p ≡ is_open (class_of class) (kind_of (kind_in part)) (held part v) p)
            → {word : ℕ} → word ≡ word_of (gate_evaluation (kind_of (kind_in part)) (held part v))
            → Simulating file ps shape class first last (set array net word) (set masks net mask) (net + 1)
        sim_step mask om {word} ow =
            let la : net < length array = omega (arith, below-512, x.state_room) in
            let lm : net < length masks = omega (arith, below-512, x.mask_room) in
            let held-is : held part v ≡ pins_in (pin_count_in part) (mid_lane packed) (low_lane packed) (high_lane packed) = rw (lanes.0, lanes.1, lanes.2) refl in
            record {
              from_inputs = omega (arith, x.from_inputs);
              to_nets = omega arith;
              state_room = length-set array net word ∙ x.state_room;
              mask_room = length-set masks net mask ∙ x.mask_room;
              each = set-each array net word la IsState (rw ow (word-form (gate_evaluation (kind_of (kind_in part)) (held part v)))) x.each;
              right = λ N cs u c y.
                  let g = gate-of c in
                  let well = legal file N c.legal in
                  let low : N.inputs ≤ net = omega (arith, x.from_inputs, c.inputs_are) in
                  let high : net < nets N = omega (arith, c.nets_are) in
                  let before = x.right N cs u c y in
                  let value = state-right g well low high u k before.same v held-is ow in
                  let open-now = mask_right g well low high u k before.same v held-is class mask y.in_class om in
                  record {
                    same = set_more array net word la (λ i w. state_in w ≡ evaluated N u i) value before.same;
                    opens = record {
                      opens = λ j p l h m.
                          set_more masks net mask lm (λ i o. (N.inputs ≤ i) → (p : ℕ) → p < length (pins_of N i) → bit o p ≡ open_pin N u i p)
                          (λ _ p m. open-now p m) (λ i h l p m. before.opens.opens i p l h m) j h l p m;
                    };
                  };
            }

pub sim_end : {file ps : List ℕ} {shape : Shape} {class first last : ℕ} {array masks : List ℕ} {net : ℕ} → shape.nets ≤ net
    → Simulating file ps shape class first last array masks net
    → (N : Netlist) (cs : List ℕ) (t : Test) → CircuitTables N file ps cs shape → TestIs N t class first last → OpenMasks N t masks
sim_end h x N cs t c y = record { opens = λ q p l m k. (x.right N cs t c y).opens.opens q p l (omega (arith, c.nets_are)) k }

pub ruleset open-cases = (inputs-few, sim_start, below-512, entry_place, position_inside, kind-inside, pins-inside, gate-states, packed-small, states-packed, sim_step, sim_end, rules)
