-- Whether one test detects one fault: the model's own `detects`, asked for a fault by its number. There is no store and no working memory, so no
-- test is refused for its runs (50, 51).
-- Names: netlist and rec are the bytes handed over; class is the number of a class, fault that of a fault.
use Rattle.std.specs.Prelude.{Bool, true, false, List, [], ◌∷◌, ◌++◌, ℕ, ◌*◌}
use Rattle.model.specs.Base.{Answer, refused, value, ◌into◌, ◌then◌, Rule, checks}
use Rattle.model.specs.Netlist.{Netlist, path_total}
use Rattle.model.specs.Path.{edge_of_fault, path_of_fault}
use Rattle.model.specs.Detect.{Test, detects_number}
use Rattle.model.specs.Read.{within, read_netlist, class_of, class_rule, test_rules, test_of}
use Rattle.model.specs.Refusals.{refusal_number_of}
use Rattle.std.specs.Prelude.{Result, Ok, Err}
use Rattle.model.specs.declared.Refusal.{Refusal}

-- the test detects the fault of this number
unfoldable pub detects_fault : Netlist → Test → ℕ → Bool
detects_fault N t fault = detects_number N t (edge_of_fault fault) (path_of_fault fault)

-- the class, the place Test, then that there is such a fault
abbrev pub detection_rules : Netlist → ℕ → List ℕ → ℕ → List Rule
detection_rules N class rec fault = class_rule class ∷ (test_rules N rec ++ ((60, within 1 (2 * path_total N) fault) ∷ []))

-- once the netlist is read
unfoldable pub detection_on : Netlist → ℕ → List ℕ → ℕ → Answer Bool
detection_on N class rec fault = checks (detection_rules N class rec fault) then value (detects_fault N (test_of N (class_of class) rec) fault)

-- The call
unfoldable pub detection_call : List ℕ → ℕ → List ℕ → ℕ → Answer Bool
detection_call netlist class rec fault = read_netlist netlist into λ N. detection_on N class rec fault
