-- The netlist file of a circuit, and of a.bench text.
use Rattle.std.specs.Prelude.{true, false, List, [], ◌∷◌, ◌++◌, map, ℕ, suc, length}
use Rattle.model.specs.Base.{Answer, value, ◌into◌}
use Rattle.model.specs.Encode.{header_bytes, gate_bytes, output_bytes}
use Rattle.bench_lines.specs.Text.{place, is_in}
use Rattle.bench_circuit.specs.Circuit.{GateLine, Circuit, net_names, circuit_of}

-- the nets at a gate's pins
abbrev pub pin_nets : List (List ℕ) → GateLine → List ℕ
pin_nets names g = map (λ y. place y names) g.pins

-- the gate records, each pin by its net
unfoldable pub gate_records : List (List ℕ) → List GateLine → List ℕ
gate_records names [] = []
gate_records names (g ∷ gs) = gate_bytes g.kind (pin_nets names g) ++ gate_records names gs

-- the nets, counted from `net`, whose names are among the outputs
unfoldable pub output_nets : ℕ → List (List ℕ) → List (List ℕ) → List ℕ
output_nets net [] outs = []
output_nets net (x ∷ xs) outs = elim (is_in x outs) [ true ↦ net ∷ output_nets (suc net) xs outs | false ↦ output_nets (suc net) xs outs ]

unfoldable pub output_records : List ℕ → List ℕ
output_records [] = []
output_records (n ∷ ns) = output_bytes n ++ output_records ns

-- Inputs, gates, then outputs by net
unfoldable pub netlist_bytes : Circuit → List ℕ
netlist_bytes c =
    header_bytes (length c.inputs) (length c.gates) (length c.outputs)
    ++ (gate_records (net_names c) c.gates ++ output_records (output_nets 0 (net_names c) c.outputs))

-- The netlist file of a.bench text
unfoldable pub converted : List ℕ → Answer (List ℕ)
converted text = circuit_of text into λ c. value (netlist_bytes c)
