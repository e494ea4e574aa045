-- The text of a number's path, as a person reads it: its output, then each gate on the way back to the path's input.
-- Names: `name` gives each net its name, no bytes where it has none.
use Rattle.std.specs.Prelude.{List, [], ◌∷◌, ◌++◌, ℕ}
use Rattle.model.specs.Base.{Answer, refused, value, ◌into◌, ◌then◌, checks}
use Rattle.model.specs.Netlist.{Netlist, Kind, buffer, inverter, and, nand, or, nor, xor, xnor, gate_of, pin_net, output_net, path_total}
use Rattle.model.specs.Path.{CircuitPath, path_of}
use Rattle.model.specs.Read.{read_netlist, within}
use Rattle.text_line.specs.Decimal.{decimal_text}
use Rattle.text_line.specs.Lines.{ascii}
use Rattle.bench_text.specs.NetlistFile.{converted}
use Rattle.bench_net_names.specs.NetNames.{name_of}
use Rattle.listing_lines.specs.ListingLines.{refused_line_of}

-- ` (F0)`
abbrev pub in_brackets : List ℕ → List ℕ
in_brackets text = ascii " (" ++ text ++ ascii ")"

-- a name in brackets; nothing where there is none
abbrev pub bracketed : List ℕ → List ℕ
bracketed [] = []
bracketed (b ∷ bs) = in_brackets (b ∷ bs)

-- a net: `57 (F0)`, or `57` where it has no name
unfoldable pub net_text : (ℕ → List ℕ) → ℕ → List ℕ
net_text name net = decimal_text net ++ bracketed (name net)

unfoldable pub kind_text : Kind → List ℕ
kind_text buffer = ascii "BUFFER"
kind_text inverter = ascii "NOT"
kind_text and = ascii "AND"
kind_text nand = ascii "NAND"
kind_text or = ascii "OR"
kind_text nor = ascii "NOR"
kind_text xor = ascii "XOR"
kind_text xnor = ascii "XNOR"

-- `output 3: net 57 (F0)`
unfoldable pub output_line : (ℕ → List ℕ) → ℕ → ℕ → List ℕ
output_line name place net = ascii "output " ++ decimal_text place ++ ascii ": net " ++ net_text name net ++ ascii "\n"

-- `net 57 (F0): NAND`
unfoldable pub gate_start : (ℕ → List ℕ) → ℕ → Kind → List ℕ
gate_start name net kind = ascii "net " ++ net_text name net ++ ascii ": " ++ kind_text kind

-- `, pin 1 from net 33 (carry2)`
unfoldable pub gate_end : (ℕ → List ℕ) → ℕ → ℕ → List ℕ
gate_end name pin next = ascii ", pin " ++ decimal_text pin ++ ascii " from net " ++ net_text name next ++ ascii "\n"

abbrev pub gate_line : (ℕ → List ℕ) → ℕ → Kind → ℕ → ℕ → List ℕ
gate_line name net kind pin next = gate_start name net kind ++ gate_end name pin next

-- `net 0 (A): input`
unfoldable pub input_line : (ℕ → List ℕ) → ℕ → List ℕ
input_line name net = ascii "net " ++ net_text name net ++ ascii ": input\n"

-- a line for each gate from a net back through the pins, each with its kind and the net at its pin, then the input
unfoldable pub gate_lines : Netlist → (ℕ → List ℕ) → ℕ → List ℕ → List ℕ
gate_lines N name net [] = input_line name net
gate_lines N name net (p ∷ ps) = gate_line name net (gate_of N net).kind p (pin_net N net p) ++ gate_lines N name (pin_net N net p) ps

unfoldable pub path_lines : Netlist → (ℕ → List ℕ) → CircuitPath → List ℕ
path_lines N name path = output_line name path.output (output_net N path.output) ++ gate_lines N name (output_net N path.output) path.pins

-- the netlist, and the path of a number
unfoldable pub path_call : List ℕ → ℕ → Answer (Netlist × CircuitPath)
path_call netlist number =
    read_netlist netlist into λ N. checks ((60, within 1 (path_total N) number) ∷ []) then value (N, path_of N number)

abbrev pub shown_path : (ℕ → List ℕ) → Answer (Netlist × CircuitPath) → List ℕ
shown_path name (refused number) = refused_line_of number
shown_path name (value r) = path_lines r.0 name r.1

-- The text of a number's path; of a refusal `refused` and its number
unfoldable pub path_text : List ℕ → (ℕ → List ℕ) → ℕ → List ℕ
path_text netlist name number = shown_path name (path_call netlist number)

abbrev pub bench_shown : (ℕ → List ℕ) → ℕ → Answer (List ℕ) → List ℕ
bench_shown name number (refused n) = refused_line_of n
bench_shown name number (value netlist) = path_text netlist name number

-- The same in the circuit of a.bench text, with the text's own names; of a text that the converter refuses `refused` and the number
unfoldable pub bench_path_text : List ℕ → ℕ → List ℕ
bench_path_text text number = bench_shown (name_of text) number (converted text)

-- bytes of a buffer, at the least: an output's line, 511 gates and an input, each under 128
abbrev pub path_bytes : ℕ
path_bytes = 65536
