-- What the numbering means, over pins: a path number stands for one path and a fault number for one fault, and a net's set is a set of paths.
-- proofs/NumberingHolds.antt has the theorem, for every legal netlist.
use Rattle.std.specs.Prelude.{◌≡◌, ◌↔◌, List, ℕ, ◌≤◌, ◌<◌, T, get_or}
use Rattle.model.specs.Netlist.{Netlist, nets, counts, path_total}
use Rattle.model.specs.Path.{CircuitPath, Edge, valid_at, valid, number_at, number_of, path_of, fault_number, edge_of_fault, path_of_fault}
use Rattle.model.specs.Detect.{Test, open_pin, has_edge, all_open, in_net_set}

-- a path of the netlist with number `k`
pub record PathNumbered (N : Netlist) (k : ℕ) (p : CircuitPath) : Type 0 where
  pub is_path : T (valid N p)
  pub number : number_of N p ≡ k

-- a partial path of `net` with number `k`, through open pins from an input that makes the edge
pub record OpenPath (N : Netlist) (t : Test) (e : Edge) (net k : ℕ) : Type 0 where
  pub pins : List ℕ
  pub is_path : T (valid_at N net pins)
  pub number : number_at N net pins ≡ k
  pub opens : T (all_open N (open_pin N t) (has_edge t e) net pins)

pub record NumberingTrue (N : Netlist) : Type 0 where
  -- numbers run from 1 to T, and each is that of its path
  pub each_number : (k : ℕ) → 1 ≤ k → k ≤ path_total N → PathNumbered N k (path_of N k)
  -- each path has such a number, and no two paths have the same
  pub each_path : (p : CircuitPath) → T (valid N p) → (1 ≤ number_of N p) × (number_of N p ≤ path_total N) × (path_of N (number_of N p) ≡ p)
  -- a net's set holds exactly the numbers of its partial paths through open pins from an input that makes the edge
  pub net_sets : (t : Test) (e : Edge) (net k : ℕ) → net < nets N → 1 ≤ k → k ≤ get_or (counts N) net 0 → T (in_net_set N t e net k) ↔ OpenPath N t e net k
  -- a fault number leads back to its edge and its path's number
  pub faults : (e : Edge) (i : ℕ) → 1 ≤ i → (edge_of_fault (fault_number e i) ≡ e) × (path_of_fault (fault_number e i) ≡ i)
