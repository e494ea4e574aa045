-- One edge: what a caller hands over of a case.
use Rattle.std.specs.Prelude.{ℕ, ◌*◌, ◌≤◌, ◌<◌, ◌≡◌, List, length, get_or}
use Rattle.model.specs.Base.{bit}
use Rattle.model.specs.Store.{max_runs}
use Rattle.model.specs.Netlist.{nets, pins_of}
use Rattle.netlist.specs.Tables.{CircuitTables}
use Rattle.netlist.specs.declared.inner.Shape.{Shape}
use Rattle.detection.specs.Cases.{Case}

-- the open pins of each gate, a bit for each
pub record OpenBits (K : Case) (masks : List ℕ) : Type 0 where
  pub opens : (net p : ℕ) → K.netlist.inputs ≤ net → net < nets K.netlist → p < length (pins_of K.netlist net) → bit (get_or masks net 0) p ≡ K.is_open net p

-- the tables of a case's netlist, a bit for each open pin and for each input that makes the edge, and room in the words
pub record EdgeAt (K : Case) (file positions pathCounts masks : List ℕ) (edges : ℕ) (shape : Shape) (ws : List ℕ) : Type 0 where
  pub tables : CircuitTables K.netlist file positions pathCounts shape
  pub open_pins : OpenBits K masks
  pub makes_edge : (j : ℕ) → j < K.netlist.inputs → bit edges j ≡ K.makes_edge j
  pub room : 4 * max_runs ≤ length ws

-- the same of some case
pub record SomeEdgeAt (file positions pathCounts masks : List ℕ) (edges : ℕ) (shape : Shape) (ws : List ℕ) : Type 0 where
  pub case : Case
  pub at_edge : EdgeAt case file positions pathCounts masks edges shape ws
