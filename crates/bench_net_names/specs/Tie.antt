-- What ties the names of a text's nets to the netlist file that the converter makes of it.
use Rattle.std.specs.Prelude.{◌≡◌, List, [], ℕ, ◌+◌, ◌<◌, length, get_or}
use Rattle.model.specs.Netlist.{nets, pin_net}
use Rattle.bench_lines.specs.Text.{place}
use Rattle.bench_circuit.specs.Circuit.{GateLine, Circuit, net_names}
use Rattle.bench_text.specs.Taken.{netlist_of}
use Rattle.bench_net_names.specs.NetNames.{names_of, name_of}

abbrev pub no_line_of : GateLine
no_line_of = record { name = []; kind = 0; pins = [] }

-- gate line g of a circuit, counted from 0
abbrev pub line_at : Circuit → ℕ → GateLine
line_at c g = get_or c.gates g no_line_of

-- Of a text whose circuit is `c`, and its netlist:
pub record NamesTie (text : List ℕ) (c : Circuit) : Type 0 where
  -- each net of the netlist has a name, and no other
  pub count : nets (netlist_of c) ≡ length (names_of text)
  -- the net that a name stands for, as the converter looks it up, is the net that has the name
  pub stands : (net : ℕ) → net < nets (netlist_of c) → place (name_of text net) (net_names c) ≡ net
  -- unlike nets have unlike names
  pub differ : (a b : ℕ) → a < nets (netlist_of c) → b < nets (netlist_of c) → name_of text a ≡ name_of text b → a ≡ b
  -- inputs are named as in the text, and the net that a gate drives by the name before its `=`
  pub input_name : (i : ℕ) → i < length c.inputs → name_of text i ≡ get_or c.inputs i []
  pub gate_name : (g : ℕ) → g < length c.gates → name_of text (length c.inputs + g) ≡ (line_at c g).name
  -- the net at a gate's pin is named as in the gate's line
  pub pin_name : (g p : ℕ) → g < length c.gates → p < length (line_at c g).pins
      → name_of text (pin_net (netlist_of c) (length c.inputs + g) p) ≡ get_or (line_at c g).pins p []
