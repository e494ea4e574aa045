-- A netlist: inputs, gates and outputs, and the count of paths at each net.
-- Nets 0 to inputs - 1 are the inputs; gate g (from 0) drives net inputs + g.
use Rattle.std.specs.Prelude.{Bool, true, false, List, [], ◌∷◌, ◌++◌, map, ℕ, ◌+◌, ◌-◌, ◌^◌, ltb, length, get_or, replicate}
use Rattle.model.specs.Base.{sum_of}

-- the kinds 1 to 8
pub data Kind : Type 0 where
  buffer inverter and nand or nor xor xnor : Kind

-- a gate: its kind, and the net at each of its pins
pub record Gate : Type 0 where
  pub kind : Kind
  pub pins : List ℕ

pub record Netlist : Type 0 where
  pub inputs : ℕ
  pub gates : List Gate
  pub outputs : List ℕ

-- the most nets, and the most that a count or the total may be
abbrev pub max_nets : ℕ
max_nets = 512

abbrev pub max_count : ℕ
max_count = 2 ^ 62

-- what a list that has one entry for each net has at the nets `ns`
abbrev pub at_nets : {A : Type 0} → List A → A → List ℕ → List A
at_nets xs d ns = map (λ n. get_or xs n d) ns

-- One entry for each net, built net by net: a gate's comes from the entries at its pins
abbrev pub net_by_net : {A : Type 0} → (Gate → List A → A) → A → List A → List Gate → List A
net_by_net f d xs [] = xs
net_by_net f d xs (g ∷ gs) = net_by_net f d (xs ++ (f g (at_nets xs d g.pins) ∷ [])) gs

-- the number of nets
abbrev pub nets : Netlist → ℕ
nets N = N.inputs + length N.gates

-- The count of an input net is 1; that of a gate's net is the sum over its pins of the count of the net at each pin
abbrev pub gate_count : Gate → List ℕ → ℕ
gate_count g ns = sum_of ns

unfoldable pub counts : Netlist → List ℕ
counts N = net_by_net gate_count 0 (replicate N.inputs 1) N.gates

-- the number of paths that end at an output, which is at net `net`: none where it is one of the `inputs` input nets, a wire without a gate
unfoldable pub output_count : ℕ → List ℕ → ℕ → ℕ
output_count inputs cs net = elim (ltb net inputs) [ true ↦ 0 | false ↦ get_or cs net 0 ]

abbrev pub output_counts : Netlist → List ℕ
output_counts N = map (output_count N.inputs (counts N)) N.outputs

-- document 01's T: the total over the outputs
unfoldable pub path_total : Netlist → ℕ
path_total N = sum_of (output_counts N)

-- where there is no gate
abbrev pub no_gate : Gate
no_gate = record { kind = buffer; pins = [] }

abbrev pub is_input : Netlist → ℕ → Bool
is_input N net = ltb net N.inputs

-- the gate that drives a net
abbrev pub gate_of : Netlist → ℕ → Gate
gate_of N net = get_or N.gates (net - N.inputs) no_gate

abbrev pub pins_of : Netlist → ℕ → List ℕ
pins_of N net = (gate_of N net).pins

-- the net at pin `p` of the gate that drives `net`
abbrev pub pin_net : Netlist → ℕ → ℕ → ℕ
pin_net N net p = get_or (pins_of N net) p 0

-- the counts of the nets at the pins of the gate that drives `net`
abbrev pub pin_counts : Netlist → ℕ → List ℕ
pin_counts N net = at_nets (counts N) 0 (pins_of N net)

-- the net of the output at place `o`
abbrev pub output_net : Netlist → ℕ → ℕ
output_net N o = get_or N.outputs o 0
