-- The faults that the store of all pairs does not hold are those that no legal test of the class detects.
use Rattle.std.specs.Prelude.{◌≡◌, ◌↔◌, ℕ, ◌+◌, ◌*◌, ◌≤◌, length}
use mathlib.Core.List.{List, Memᴰ}
use Rattle.model.specs.Base.{value}
use Rattle.model.specs.Netlist.{Netlist, path_total}
use Rattle.model.specs.Path.{Fault, path_of, edge_of_fault, path_of_fault}
use Rattle.model.specs.Read.{read_netlist, class_of}
use Rattle.model.specs.Store.{ByEdge}
use Rattle.exhaust_pairs.specs.Exhaust.{exhaust_answer, exhaust_store, Shown}
use Rattle.exhaust_undetected.specs.Undetected.{undetected}

-- the fault of a number
abbrev pub fault_of : Netlist → ℕ → Fault
fault_of N f = record { path = path_of N (path_of_fault f); edge = edge_of_fault f }

-- a fault of the netlist that no legal test of the class detects, by its number
pub record Undetectable (N : Netlist) (class f : ℕ) : Type 0 where
  pub least : 1 ≤ f
  pub most : f ≤ 2 * path_total N
  pub never : Shown N (class_of class) (fault_of N f) → ⊥

-- those that the store left by all pairs does not hold
pub record NeverDetected (N : Netlist) (class : ℕ) (left : List ℕ) (totals : ByEdge ℕ) : Type 0 where
  pub these : (f : ℕ) → Memᴰ f (undetected left (path_total N)) ↔ Undetectable N class f
  -- with the totals they are all faults
  pub many : length (undetected left (path_total N)) + totals.on_rising + totals.on_falling ≡ 2 * path_total N

-- What is claimed
pub record UndetectedTrue : Type 0 where
  pub after_all_pairs : (netlist : List ℕ) (class : ℕ) (ws work : List ℕ) (N : Netlist) → read_netlist netlist ≡ value N
      → (totals : ByEdge ℕ) → exhaust_answer netlist class ws work ≡ value totals
      → NeverDetected N class (exhaust_store netlist class ws work) totals
