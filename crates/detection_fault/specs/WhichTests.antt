-- The tests of a file that detect a fault, by their places from 1, in order: what the program `which_tests` prints.
-- Names: netlist and test_file are bytes, class is the number of a class, fault that of a fault.
use Rattle.std.specs.Prelude.{◌≡◌, true, false, ◌↔◌, ℕ, suc, ◌-◌, ◌*◌, ◌≤◌, length, get_or}
use mathlib.Core.List.{List, [], ◌∷◌, map, Memᴰ}
use Rattle.model.specs.Base.{Answer, value, ◌into◌, ◌then◌, checks}
use Rattle.model.specs.Netlist.{Netlist, path_total}
use Rattle.model.specs.Detect.{Test, nonRobust}
use Rattle.model.specs.Read.{within, read_netlist, class_of, class_rule, test_rules, test_of}
use Rattle.model.specs.Report.{file_records, whole_records}
use Rattle.detection_fault.specs.Detection.{detects_fault}

-- the places of those tests of a list that detect the fault; the first test is at place `k`
unfoldable pub places_from : Netlist → ℕ → ℕ → List Test → List ℕ
places_from N fault k [] = []
places_from N fault k (t ∷ ts) =
    elim (detects_fault N t fault) [
      | true ↦ k ∷ places_from N fault (suc k) ts
      | false ↦ places_from N fault (suc k) ts
    ]

-- the place Test for each record in order, with no store and no working memory
abbrev pub records_legal : Netlist → List (List ℕ) → Answer (Unit {0})
records_legal N [] = value tt
records_legal N (r ∷ rs) = checks (test_rules N r) then records_legal N rs

-- The call: 83, 33, the records, then 60
unfoldable pub which_call : List ℕ → ℕ → List ℕ → ℕ → Answer (List ℕ)
which_call netlist class test_file fault =
    read_netlist netlist
    into λ N. checks (class_rule class ∷ (33, whole_records N test_file) ∷ [])
    then records_legal N (file_records N test_file)
    then checks ((60, within 1 (2 * path_total N) fault) ∷ [])
    then value (places_from N fault 1 (map (test_of N (class_of class)) (file_records N test_file)))

-- no test
abbrev pub no_test : Test
no_test = record { v1 = []; v2 = []; class = nonRobust }

-- What is claimed: the places are those of the tests that detect the fault
pub record PlacesTrue (N : Netlist) (fault : ℕ) (ts : List Test) : Type 0 where
  pub these : (p : ℕ) → Memᴰ p (places_from N fault 1 ts) ↔ ((1 ≤ p) × (p ≤ length ts) × (detects_fault N (get_or ts (p - 1) no_test) fault ≡ true))
