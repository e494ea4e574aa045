-- One record that no rule of the place Test refuses, by its open pins and edges: what is handed over, and what is answered and left.
use Rattle.std.specs.Prelude.{◌≡◌, List, ℕ, ◌<◌}
use Rattle.model.specs.Base.{value, checks, bit}
use Rattle.model.specs.Netlist.{Netlist}
use Rattle.model.specs.Path.{rising, falling}
use Rattle.model.specs.Detect.{Class, Test, has_edge}
use Rattle.model.specs.Read.{test_rules}
use Rattle.model.specs.Calls.{test_stage}
use Rattle.netlist.specs.declared.inner.Shape.{Shape}
use Rattle.single_simulation.specs.Simulated.{OpenMasks}
use Rattle.record_test.specs.declared.inner.InputEdges.{InputEdges}
use Rattle.store_coverage.specs.Stage.{StageReady, StageIs}
use Rattle.std.specs.Prelude.{Result}
use Rattle.model.specs.declared.Refusal.{Refusal}

-- the open pins of each gate and the edges of the inputs, a bit for each, are those of a test
pub record PinsOf (N : Netlist) (t : Test) (masks : List ℕ) (edges : InputEdges) : Type 0 where
  pub open_pins : OpenMasks N t masks
  pub rise : (j : ℕ) → j < N.inputs → bit edges.rises j ≡ has_edge t rising j
  pub fall : (j : ℕ) → j < N.inputs → bit edges.falls j ≡ has_edge t falling j

-- besides tables and memory, a record that no rule of the place Test refuses
pub record LegalReady (netlist positions counts : List ℕ) (shape : Shape) (rec store work : List ℕ) : Type 0 where
  pub stage : StageReady netlist positions counts shape store work
  pub legal_record : checks (test_rules stage.circuit rec) ≡ value tt

-- its open pins and edges instead of the record
pub record WorkReady (netlist positions counts masks : List ℕ) (edges : InputEdges) (shape : Shape) (store work : List ℕ) : Type 0 where
  pub stage : StageReady netlist positions counts shape store work
  pub test : Test
  pub pins : PinsOf stage.circuit test masks edges

-- the places Test, Store and Work for one record in a class
abbrev pub StageTrue : Netlist → Class → List ℕ → List ℕ → List ℕ → List ℕ → List ℕ → Result (Unit {0}) Refusal → Type 0
StageTrue N c rec ws ws' work work' r = StageIs (test_stage N c rec ws) ws ws' work work' r
