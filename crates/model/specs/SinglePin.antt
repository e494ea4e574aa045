-- Gates with a single pin (document 02, ticket 1): what such a gate does, and that netlists legal before the ticket get the same answers. Only
-- `pins_fit` says how many pins a kind takes; what one pin does follows from `gate_value` and `is_open`.
use Rattle.std.specs.Prelude.{◌≡◌, Bool, true, ◌&&◌, ◌||◌, List, [], ◌∷◌, ◌++◌, ℕ, zero, suc, ◌+◌, ◌*◌, ltb, leb, eqb, length, get_or, drop}
use Rattle.model.specs.Base.{Answer, value, ◌into◌, ◌then◌, Rule, checks, all_of}
use Rattle.model.specs.Netlist.{Netlist, Gate, Kind, buffer, inverter, and, nand, or, nor, xor, xnor, max_count, gate_count, net_by_net}
use Rattle.model.specs.Detect.{nonRobust, robust, Evaluation, gate_value, differs, is_open}
use Rattle.model.specs.Read.{marked, within, pins_fit, gate_in, count_in, read_outputs_of, inputs_in, gates_in, outputs_in, header_rules, input_counts, read_netlist}
use Rattle.model.specs.Calls.{survey_of, survey_call}

-- With one pin AND, OR and XOR act as a buffer, the other three as NOT
abbrev pub one_pin_acts : Kind → Kind
one_pin_acts buffer = buffer
one_pin_acts inverter = inverter
one_pin_acts and = buffer
one_pin_acts nand = inverter
one_pin_acts or = buffer
one_pin_acts nor = inverter
one_pin_acts xor = buffer
one_pin_acts xnor = inverter

-- the pin count for the kind before the ticket: one for buffer and NOT, 2 to 8 for the others
abbrev pub pins_fit_before : ℕ → ℕ → Bool
pins_fit_before kind n = (leb kind 2 && eqb n 1) || (leb 3 kind && within 2 8 n)

-- The reader of Read.antt with the pin rule as a parameter; with `pins_fit` it is `read_netlist` (`same_reader` below)
abbrev pub gate_rules_by : (ℕ → ℕ → Bool) → ℕ → List ℕ → List ℕ → List Rule
gate_rules_by fit net cs bs =
    (12, leb 4 (length bs) && marked 0x47 0x54 bs)
    ∷ (13, within 1 8 (get_or bs 2 0))
    ∷ (14, fit (get_or bs 2 0) (get_or bs 3 0))
    ∷ (12, leb (4 + 2 * get_or bs 3 0) (length bs))
    ∷ (15, all_of (λ p. ltb p net) (gate_in bs).pins)
    ∷ (17, leb (count_in cs bs) max_count)
    ∷ []

unfoldable pub read_gates_by : (ℕ → ℕ → Bool) → ℕ → List ℕ → List ℕ → Answer (List Gate × List ℕ)
read_gates_by fit zero cs bs = value ([], bs)
read_gates_by fit (suc n) cs bs =
    checks (gate_rules_by fit (length cs) cs bs)
    then read_gates_by fit n (cs ++ (count_in cs bs ∷ [])) (drop (4 + 2 * get_or bs 3 0) bs)
    into λ r. value (gate_in bs ∷ r.0, r.1)

unfoldable pub read_netlist_by : (ℕ → ℕ → Bool) → List ℕ → Answer Netlist
read_netlist_by fit bs =
    checks (header_rules bs)
    then read_gates_by fit (gates_in bs) (input_counts bs) (drop 8 bs)
    into λ g. read_outputs_of (outputs_in bs) (inputs_in bs) (inputs_in bs + gates_in bs) (net_by_net gate_count 0 (input_counts bs) g.0) 0 0 g.1
    into λ o. checks ((20, eqb (length o.1) 0) ∷ [])
    then value (record { inputs = inputs_in bs; gates = g.0; outputs = o.0 })

-- Ticket 1, as one statement over the definitions
pub record SinglePin : Type 0 where
  -- what one pin does
  pub one_pin_value : (kind : Kind) (v : Bool) → gate_value kind (v ∷ []) ≡ gate_value (one_pin_acts kind) (v ∷ [])
  pub one_pin_open : (kind : Kind) (n : Evaluation) → is_open nonRobust kind (n ∷ []) 0 ≡ true
  pub one_pin_robust : (kind : Kind) (n : Evaluation) → is_open robust kind (n ∷ []) 0 ≡ differs n
  -- the reader that the calls use is the one with `pins_fit`
  pub same_reader : (file : List ℕ) → read_netlist_by pins_fit file ≡ read_netlist file
  -- a netlist that was legal is read as it was, and has the same survey; every other call sees it through `read_netlist` alone
  pub same_netlist : (file : List ℕ) (N : Netlist) → read_netlist_by pins_fit_before file ≡ value N → read_netlist file ≡ value N
  pub same_survey : (file : List ℕ) (N : Netlist) → read_netlist_by pins_fit_before file ≡ value N → survey_call file ≡ value (survey_of N)
