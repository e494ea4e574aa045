-- A path that is walked by its number, with the open pins of each gate as the bits of a byte and the inputs that make an edge as those of a word.
use Rattle.std.specs.Prelude.{◌≡◌, Bool, List, ℕ, ◌≤◌, get_or}
use Rattle.model.specs.Base.{value, checks, bit}
use Rattle.model.specs.Netlist.{Netlist, output_net, path_total}
use Rattle.model.specs.Path.{Edge, rising, falling, path_at, path_of}
use Rattle.model.specs.Detect.{all_open}
use Rattle.model.specs.Read.{test_rules}
use Rattle.netlist.specs.Tables.{CircuitTables}
use Rattle.netlist.specs.declared.inner.Shape.{Shape}
use Rattle.record_test.specs.declared.inner.InputEdges.{InputEdges}

-- pin `p` of the gate that drives `net` is open by its byte
abbrev pub open_in : List ℕ → ℕ → ℕ → Bool
open_in masks net p = bit (get_or masks net 0) p

-- the pins of partial path `k` of `net` are open, and its input makes the edge
unfoldable pub open_at : Netlist → List ℕ → ℕ → ℕ → ℕ → Bool
open_at N masks moved net k = all_open N (open_in masks) (bit moved) net (path_at N net net k)

-- the same of path number `k`
unfoldable pub open_number : Netlist → List ℕ → ℕ → ℕ → Bool
open_number N masks moved k = all_open N (open_in masks) (bit moved) (output_net N (path_of N k).output) (path_of N k).pins

-- the inputs that make an edge, a bit for each
abbrev pub moved_by : InputEdges → Edge → ℕ
moved_by edges rising = edges.rises
moved_by edges falling = edges.falls

-- the tables of a legal netlist, and the total of its paths
pub record Asked (file positions counts : List ℕ) (shape : Shape) (total : ℕ) : Type 0 where
  pub circuit : Netlist
  pub tables : CircuitTables circuit file positions counts shape
  pub total_is : total ≡ path_total circuit

-- besides, a record that no rule of the place Test refuses, and a number of one of its paths
pub record LegalAsked (file positions counts : List ℕ) (shape : Shape) (rec : List ℕ) (path : ℕ) : Type 0 where
  pub circuit : Netlist
  pub tables : CircuitTables circuit file positions counts shape
  pub legal_record : checks (test_rules circuit rec) ≡ value tt
  pub low : 1 ≤ path
  pub high : path ≤ path_total circuit
