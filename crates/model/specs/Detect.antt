-- One test of two vectors: the values of the nets and which of them are steady, the open pins of each class, and the faults that it detects.
-- Detection is defined over pins.
use Rattle.std.specs.Prelude.{Bool, true, false, ◌&&◌, ◌||◌, not, List, [], ◌∷◌, map, ℕ, zero, suc, get_or}
use Rattle.std.specs.Bool.{beq}
use Rattle.std.proofs.Math.Option.{Option, none, some}
use Rattle.model.specs.Base.{all_of, any_of, numbers_from}
use Rattle.model.specs.Netlist.{Netlist, Kind, buffer, inverter, and, nand, or, nor, xor, xnor, net_by_net, at_nets, gate_of, pins_of, pin_net, output_net}
use Rattle.model.specs.Path.{Edge, rising, falling, Fault, path_at, path_of}

-- The class in which a test is judged
pub data Class : Type 0 where
  nonRobust robust : Class

-- A test: V1 and V2, a value for each input, input 0 first, and the class in which it is judged
pub record Test : Type 0 where
  pub v1 : List Bool
  pub v2 : List Bool
  pub class : Class

-- an odd number of ones
abbrev pub odd : List Bool → Bool
odd [] = false
odd (v ∷ vs) = not (beq v (odd vs))

-- the value of a gate from the values at its pins
abbrev pub gate_value : Kind → List Bool → Bool
gate_value buffer vs = get_or vs 0 false
gate_value inverter vs = not (get_or vs 0 false)
gate_value and vs = all_of (λ v. v) vs
gate_value nand vs = not (all_of (λ v. v) vs)
gate_value or vs = any_of (λ v. v) vs
gate_value nor vs = not (any_of (λ v. v) vs)
gate_value xor vs = odd vs
gate_value xnor vs = not (odd vs)

-- The value at a pin that is non-controlling: 1 for AND and NAND, 0 for OR and NOR. The other kinds have none
abbrev pub non_controlling : Kind → Option Bool
non_controlling buffer = none
non_controlling inverter = none
non_controlling and = some true
non_controlling nand = some true
non_controlling or = some false
non_controlling nor = some false
non_controlling xor = none
non_controlling xnor = none

-- What evaluating a net yields: its value under V1, its value under V2, and whether it is steady
pub record Evaluation : Type 0 where
  pub under_v1 : Bool
  pub under_v2 : Bool
  pub steady : Bool

-- where there is no net
abbrev pub no_evaluation : Evaluation
no_evaluation = record { under_v1 = false; under_v2 = false; steady = false }

-- An input is steady if V1 and V2 agree on it
abbrev pub input_evaluation : List Bool → List Bool → ℕ → Evaluation
input_evaluation v1 v2 j = record { under_v1 = get_or v1 j false; under_v2 = get_or v2 j false; steady = beq (get_or v1 j false) (get_or v2 j false) }

-- one pin is steady at the controlling value
abbrev pub one_controls : Option Bool → List Evaluation → Bool
one_controls none ns = false
one_controls (some b) ns = any_of (λ n. n.steady && not (beq b n.under_v2)) ns

-- A gate's net is steady if all its pins are, or if one pin is steady at the controlling value
abbrev pub gate_steady : Kind → List Evaluation → Bool
gate_steady kind ns = all_of (λ n. n.steady) ns || one_controls (non_controlling kind) ns

-- a gate's net, from the nets at its pins
abbrev pub gate_evaluation : Kind → List Evaluation → Evaluation
gate_evaluation kind ns = record {
  under_v1 = gate_value kind (map (λ n. n.under_v1) ns);
  under_v2 = gate_value kind (map (λ n. n.under_v2) ns);
  steady = gate_steady kind ns;
}

-- Evaluating all nets under V1 and V2
unfoldable pub evaluate : Netlist → List Bool → List Bool → List Evaluation
evaluate N v1 v2 = net_by_net (λ g ns. gate_evaluation g.kind ns) no_evaluation (map (input_evaluation v1 v2) (numbers_from 0 N.inputs)) N.gates

-- every entry but that at place `p` passes the test: "other pin" is by place, not by net
abbrev pub others : {A : Type 0} → (A → Bool) → List A → ℕ → Bool
others f [] p = true
others f (x ∷ xs) zero = all_of f xs
others f (x ∷ xs) (suc p) = f x && others f xs p

-- Open pin: a pin is open when every other pin of its gate is non-controlling under V2. Pins of the other kinds are always open
abbrev pub open_among : Option Bool → List Evaluation → ℕ → Bool
open_among none ns p = true
open_among (some b) ns p = others (λ n. beq b n.under_v2) ns p

-- The other pins of a robustly open pin, for a kind with a non-controlling value `b`: when its V2 value is non-controlling, the other pins
-- are non-controlling under V2; when controlling, the other pins are steady and non-controlling
abbrev pub robust_sides : Bool → List Evaluation → ℕ → Bool
robust_sides b ns p =
    elim (beq b (get_or ns p no_evaluation).under_v2) [
      | true ↦ others (λ n. beq b n.under_v2) ns p
      | false ↦ others (λ n. n.steady && beq b n.under_v2) ns p
    ]

-- For XOR and XNOR the other pins are steady. Buffer and NOT need no more
abbrev pub robust_among : Kind → List Evaluation → ℕ → Bool
robust_among buffer ns p = true
robust_among inverter ns p = true
robust_among and ns p = robust_sides true ns p
robust_among nand ns p = robust_sides true ns p
robust_among or ns p = robust_sides false ns p
robust_among nor ns p = robust_sides false ns p
robust_among xor ns p = others (λ n. n.steady) ns p
robust_among xnor ns p = others (λ n. n.steady) ns p

-- the net differs between V1 and V2
abbrev pub differs : Evaluation → Bool
differs n = not (beq n.under_v1 n.under_v2)

-- The open pins of a class. Robustly open: the pin's net differs between V1 and V2, and the other pins allow it
abbrev pub is_open : Class → Kind → List Evaluation → ℕ → Bool
is_open nonRobust kind ns p = open_among (non_controlling kind) ns p
is_open robust kind ns p = differs (get_or ns p no_evaluation) && robust_among kind ns p

-- the nets at the pins of the gate that drives `net`
abbrev pub pin_evaluations : Netlist → List Bool → List Bool → ℕ → List Evaluation
pin_evaluations N v1 v2 net = at_nets (evaluate N v1 v2) no_evaluation (pins_of N net)

-- pin `p` of the gate that drives `net` is open, in the class of the test
unfoldable pub open_pin : Netlist → Test → ℕ → ℕ → Bool
open_pin N t net p = is_open t.class (gate_of N net).kind (pin_evaluations N t.v1 t.v2 net) p

-- An input rises when V1 has 0 and V2 has 1, and falls in the opposite case
unfoldable pub has_edge : Test → Edge → ℕ → Bool
has_edge t rising j = not (get_or t.v1 j false) && get_or t.v2 j false
has_edge t falling j = get_or t.v1 j false && not (get_or t.v2 j false)

-- the pins from `net` on pass the test `isOpenPin`, and the input that they lead to passes the test `edge`
unfoldable pub all_open : Netlist → (ℕ → ℕ → Bool) → (ℕ → Bool) → ℕ → List ℕ → Bool
all_open N isOpenPin edge net [] = edge net
all_open N isOpenPin edge net (p ∷ ps) = isOpenPin net p && all_open N isOpenPin edge (pin_net N net p) ps

-- A test detects a fault when the path's input makes the fault's edge and every pin of the path is open. It speaks of paths of the netlist:
-- of a path that is not `valid` there the answer means nothing
unfoldable pub detects : Netlist → Test → Fault → Bool
detects N t f = all_open N (open_pin N t) (has_edge t f.edge) (output_net N f.path.output) f.path.pins

-- A net's set for an edge: number `k` is that of a partial path through open pins from an input that makes this edge
unfoldable pub in_net_set : Netlist → Test → Edge → ℕ → ℕ → Bool
in_net_set N t e net k = all_open N (open_pin N t) (has_edge t e) net (path_at N net net k)

-- the test detects the fault of path number `k` and edge `e`
unfoldable pub detects_number : Netlist → Test → Edge → ℕ → Bool
detects_number N t e k = detects N t (record { path = path_of N k; edge = e })
