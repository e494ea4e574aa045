-- The netlist file and a test record, with the refusals of document 01 in its order: each part of a file is read from its mark on.
use Rattle.std.specs.Prelude.{Bool, ◌&&◌, ◌||◌, not, List, [], ◌∷◌, ◌++◌, map, ℕ, zero, suc, ◌+◌, ◌-◌, ◌*◌, ◌/◌, ◌%◌, ltb, leb, eqb, length, get_or, drop, replicate}
use Rattle.std.specs.Bool.{beq}
use Rattle.model.specs.Base.{Answer, value, ◌into◌, ◌then◌, Rule, checks, all_of, any_of, numbers_from, field, bit}
use Rattle.model.specs.Netlist.{Netlist, Gate, Kind, buffer, inverter, and, nand, or, nor, xor, xnor, max_nets, max_count, gate_count, net_by_net, at_nets, output_count}
use Rattle.model.specs.Detect.{Class, nonRobust, robust, Test}

-- the part begins with the two bytes of a mark
abbrev pub marked : ℕ → ℕ → List ℕ → Bool
marked a b bs = eqb (get_or bs 0 0) a && eqb (get_or bs 1 0) b

-- from `low` to `high`, both included
abbrev pub within : ℕ → ℕ → ℕ → Bool
within low high n = leb low n && leb n high

-- kinds by their number, from 1
abbrev pub kind_of : ℕ → Kind
kind_of k = get_or (buffer ∷ buffer ∷ inverter ∷ and ∷ nand ∷ or ∷ nor ∷ xor ∷ xnor ∷ []) k buffer

-- the pin count for the kind: one for buffer and NOT, 1 to 8 for the others
abbrev pub pins_fit : ℕ → ℕ → Bool
pins_fit kind n = (leb kind 2 && eqb n 1) || (leb 3 kind && within 1 8 n)

-- `n` nets of two bytes each
abbrev pub net_fields : ℕ → List ℕ → List ℕ
net_fields zero bs = []
net_fields (suc n) bs = field 0 2 bs ∷ net_fields n (drop 2 bs)

-- the gate whose record `bs` begins with
abbrev pub gate_in : List ℕ → Gate
gate_in bs = record { kind = kind_of (get_or bs 2 0); pins = net_fields (get_or bs 3 0) (drop 4 bs) }

-- the count of that gate's net
abbrev pub count_in : List ℕ → List ℕ → ℕ
count_in cs bs = gate_count (gate_in bs) (at_nets cs 0 (gate_in bs).pins)

-- Gate by gate: the rules of the gate that drives `net`, whose record `bs` begins with. `cs` are the counts of the nets before
abbrev pub gate_rules : ℕ → List ℕ → List ℕ → List Rule
gate_rules net cs bs =
    (12, leb 4 (length bs) && marked 0x47 0x54 bs)
    ∷ (13, within 1 8 (get_or bs 2 0))
    ∷ (14, pins_fit (get_or bs 2 0) (get_or bs 3 0))
    ∷ (12, leb (4 + 2 * get_or bs 3 0) (length bs))
    ∷ (15, all_of (λ p. ltb p net) (gate_in bs).pins)
    ∷ (17, leb (count_in cs bs) max_count)
    ∷ []

-- `n` gates, and the bytes after them
unfoldable pub read_gates : ℕ → List ℕ → List ℕ → Answer (List Gate × List ℕ)
read_gates zero cs bs = value ([], bs)
read_gates (suc n) cs bs =
    checks (gate_rules (length cs) cs bs)
    then read_gates n (cs ++ (count_in cs bs ∷ [])) (drop (4 + 2 * get_or bs 3 0) bs)
    into λ r. value (gate_in bs ∷ r.0, r.1)

-- Output by output: the rules of one output, at a net from `least` to below `nets`; the nets below `inputs` are the inputs. `s` is the sum so far
abbrev pub output_rules : ℕ → ℕ → List ℕ → ℕ → ℕ → List ℕ → List Rule
output_rules inputs nets cs least s bs =
    (18, leb 4 (length bs) && marked 0x4F 0x55 bs)
    ∷ (19, ltb (field 2 2 bs) nets && leb least (field 2 2 bs))
    ∷ (21, leb (s + output_count inputs cs (field 2 2 bs)) max_count)
    ∷ []

-- `n` outputs, each higher than the one before, and the bytes after them
unfoldable pub read_outputs_of : ℕ → ℕ → ℕ → List ℕ → ℕ → ℕ → List ℕ → Answer (List ℕ × List ℕ)
read_outputs_of zero inputs nets cs least s bs = value ([], bs)
read_outputs_of (suc n) inputs nets cs least s bs =
    checks (output_rules inputs nets cs least s bs)
    then read_outputs_of n inputs nets cs (suc (field 2 2 bs)) (s + output_count inputs cs (field 2 2 bs)) (drop 4 bs)
    into λ r. value (field 2 2 bs ∷ r.0, r.1)

-- I, G and U of the header
abbrev pub inputs_in : List ℕ → ℕ
inputs_in bs = field 2 2 bs

abbrev pub gates_in : List ℕ → ℕ
gates_in bs = field 4 2 bs

abbrev pub outputs_in : List ℕ → ℕ
outputs_in bs = field 6 2 bs

-- I, G, I + G and U are in range
abbrev pub header_range : ℕ → ℕ → ℕ → Bool
header_range i g u = within 1 64 i && leb g 511 && leb (i + g) max_nets && within 1 64 u

-- Header
abbrev pub header_rules : List ℕ → List Rule
header_rules bs =
    (10, leb 8 (length bs) && marked 0x4E 0x4C bs)
    ∷ (11, header_range (inputs_in bs) (gates_in bs) (outputs_in bs))
    ∷ []

-- the counts of the inputs
abbrev pub input_counts : List ℕ → List ℕ
input_counts bs = replicate (inputs_in bs) 1

-- The netlist in a file. Legal: no condition from Header to Netlist end holds, so that this is no refusal
unfoldable pub read_netlist : List ℕ → Answer Netlist
read_netlist bs =
    checks (header_rules bs)
    then read_gates (gates_in bs) (input_counts bs) (drop 8 bs)
    into λ g. read_outputs_of (outputs_in bs) (inputs_in bs) (inputs_in bs + gates_in bs) (net_by_net gate_count 0 (input_counts bs) g.0) 0 0 g.1
    into λ o. checks ((20, eqb (length o.1) 0) ∷ [])
    then value (record { inputs = inputs_in bs; gates = g.0; outputs = o.0 })

-- I bits in whole bytes
abbrev pub vector_bytes_of : ℕ → ℕ
vector_bytes_of i = (i + 7) / 8

-- input j is bit j mod 8, counted from the least significant, of byte j / 8
abbrev pub input_bit : List ℕ → ℕ → Bool
input_bit bs j = bit (get_or bs (j / 8) 0) (j % 8)

-- the values of `i` inputs
abbrev pub vector : ℕ → List ℕ → List Bool
vector i bs = map (input_bit bs) (numbers_from 0 i)

-- spare bits, those after input i - 1, are zero
abbrev pub spare_zero_of : ℕ → List ℕ → Bool
spare_zero_of i bs = all_of (λ j. not (input_bit bs j)) (numbers_from i (8 * vector_bytes_of i - i))

-- an input is changed: it has another value in V2 than in V1
abbrev pub is_changed : List ℕ → List ℕ → ℕ → Bool
is_changed v1 v2 j = not (beq (input_bit v1 j) (input_bit v2 j))

-- some of the `i` inputs is changed
abbrev pub some_change_of : ℕ → List ℕ → List ℕ → Bool
some_change_of i v1 v2 = any_of (is_changed v1 v2) (numbers_from 0 i)

abbrev pub record_length : Netlist → ℕ
record_length N = 2 + 2 * vector_bytes_of N.inputs

-- where V1 and V2 begin in a test record
abbrev pub v1_part : Netlist → List ℕ → List ℕ
v1_part N bs = drop 2 bs

abbrev pub v2_part : Netlist → List ℕ → List ℕ
v2_part N bs = drop (2 + vector_bytes_of N.inputs) bs

-- classes by their number, from 1
abbrev pub class_of : ℕ → Class
class_of k = get_or (nonRobust ∷ nonRobust ∷ robust ∷ []) k nonRobust

-- Class: 1 (non-robust) or 2 (robust), else 83, after the netlist's checks and before 33 and 30
abbrev pub class_rule : ℕ → Rule
class_rule class = (83, within 1 2 class)

-- The test in a record, judged in a class
unfoldable pub test_of : Netlist → Class → List ℕ → Test
test_of N c bs = record { v1 = vector N.inputs (v1_part N bs); v2 = vector N.inputs (v2_part N bs); class = c }

-- Test, for a single call; 85: a pair without a changed input
abbrev pub test_rules : Netlist → List ℕ → List Rule
test_rules N bs =
    (30, eqb (length bs) (record_length N))
    ∷ (31, marked 0x54 0x50 bs)
    ∷ (32, spare_zero_of N.inputs (v1_part N bs) && spare_zero_of N.inputs (v2_part N bs))
    ∷ (85, some_change_of N.inputs (v1_part N bs) (v2_part N bs))
    ∷ []
