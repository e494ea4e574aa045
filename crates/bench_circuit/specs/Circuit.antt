-- The circuit that the lines of a.bench text define, with the refusals 80 to 82 and the line that is refused.
use Rattle.std.specs.Prelude.{Bool, true, false, ◌&&◌, not, List, [], ◌∷◌, ◌++◌, map, ℕ, suc, ◌+◌, leb, length}
use Rattle.model.specs.Base.{Answer, refused, value, ◌into◌, ◌then◌, Rule, checks, all_of}
use Rattle.model.specs.Netlist.{max_nets}
use Rattle.model.specs.Read.{pins_fit, header_range}
use Rattle.bench_lines.specs.Text.{Statement, blank, input, output, gate, other, lines_of, tokens_of, statement_of, is_in}

-- a gate line: the name it defines, its kind, the names at its pins
pub record GateLine : Type 0 where
  pub name : List ℕ
  pub kind : ℕ
  pub pins : List (List ℕ)

-- what the lines so far define, each in file order
pub record Circuit : Type 0 where
  pub inputs : List (List ℕ)
  pub gates : List GateLine
  pub outputs : List (List ℕ)

abbrev pub empty_circuit : Circuit
empty_circuit = record { inputs = []; gates = []; outputs = [] }

-- Inputs come first, then gates, both in file order: the names of the nets
unfoldable pub net_names : Circuit → List (List ℕ)
net_names c = c.inputs ++ map (λ (g : GateLine). g.name) c.gates

-- a netlist's header has room for one more input, gate, output. Of what is still to come, the least that a header takes: one input, one output
unfoldable pub input_fits : Circuit → Bool
input_fits c = header_range (suc (length c.inputs)) (length c.gates) 1

unfoldable pub gate_fits : Circuit → Bool
gate_fits c = header_range 1 (suc (length c.gates)) 1 && leb (length c.inputs + suc (length c.gates)) max_nets

unfoldable pub output_fits : Circuit → Bool
output_fits c = header_range 1 0 (suc (length c.outputs))

-- a gate's name is new and its pins are defined on earlier lines
unfoldable pub gate_named : Circuit → List ℕ → List (List ℕ) → Bool
gate_named c x ys = not (is_in x (net_names c)) && all_of (λ y. is_in y (net_names c)) ys

-- The rules of a line, the lowest number first
unfoldable pub line_rules : Circuit → Statement → List Rule
line_rules c blank = []
line_rules c other = (80, false) ∷ []
line_rules c (input x) = (81, not (is_in x (net_names c))) ∷ (82, input_fits c) ∷ []
line_rules c (output x) = (81, not (is_in x c.outputs)) ∷ (82, output_fits c) ∷ []
line_rules c (gate x k ys) = (81, gate_named c x ys) ∷ (82, gate_fits c && pins_fit k (length ys)) ∷ []

-- the circuit with what a line adds
unfoldable pub added : Circuit → Statement → Circuit
added c blank = c
added c other = c
added c (input x) = record { inputs = c.inputs ++ (x ∷ []); gates = c.gates; outputs = c.outputs }
added c (output x) = record { inputs = c.inputs; gates = c.gates; outputs = c.outputs ++ (x ∷ []) }
added c (gate x k ys) = record { inputs = c.inputs; gates = c.gates ++ (record { name = x; kind = k; pins = ys } ∷ []); outputs = c.outputs }

-- Line by line: the first bad line decides
unfoldable pub line_by_line : Circuit → List (List ℕ) → Answer Circuit
line_by_line c [] = value c
line_by_line c (l ∷ ls) =
    checks (line_rules c (statement_of (tokens_of l))) then line_by_line (added c (statement_of (tokens_of l))) ls

-- At the end: an output name never defined is 81, then no input or no output 82
unfoldable pub end_rules : Circuit → List Rule
end_rules c =
    (81, all_of (λ x. is_in x (net_names c)) c.outputs) ∷ (82, leb 1 (length c.inputs) && leb 1 (length c.outputs)) ∷ []

unfoldable pub circuit_of : List ℕ → Answer Circuit
circuit_of text = line_by_line empty_circuit (lines_of text) into λ c. checks (end_rules c) then value c

-- ---- the line of a refusal, so that a person finds it

-- the number of the first bad line, the first of the lines having number `k`; 0 if there is none
unfoldable pub bad_from : Circuit → ℕ → List (List ℕ) → ℕ
bad_from c k [] = 0
bad_from c k (l ∷ ls) = elim (checks (line_rules c (statement_of (tokens_of l)))) [ refused n ↦ k | value u ↦ bad_from (added c (statement_of (tokens_of l))) (suc k) ls ]

-- a line is no OUTPUT line, or its name is one of these
unfoldable pub output_defined : List (List ℕ) → Statement → Bool
output_defined names blank = true
output_defined names other = true
output_defined names (input x) = true
output_defined names (output x) = is_in x names
output_defined names (gate x k ys) = true

-- the number of the first OUTPUT line whose name is none of these; 0 if there is none
unfoldable pub undefined_from : List (List ℕ) → ℕ → List (List ℕ) → ℕ
undefined_from names k [] = 0
undefined_from names k (l ∷ ls) = elim (output_defined names (statement_of (tokens_of l))) [ true ↦ undefined_from names (suc k) ls | false ↦ k ]

-- at the end: the first OUTPUT line whose name is never defined; no input or no output is of no line
unfoldable pub end_line : Circuit → List (List ℕ) → ℕ
end_line c ls = elim (all_of (λ x. is_in x (net_names c)) c.outputs) [ true ↦ 0 | false ↦ undefined_from (net_names c) 1 ls ]

-- the line that a refusal is of, counted from 1: the first bad line, or that of the end
unfoldable pub line_in : Answer Circuit → List (List ℕ) → ℕ
line_in (refused n) ls = bad_from empty_circuit 1 ls
line_in (value c) ls = end_line c ls

-- 0 where no line is refused
unfoldable pub refused_line_of : List ℕ → ℕ
refused_line_of text = line_in (line_by_line empty_circuit (lines_of text)) (lines_of text)
