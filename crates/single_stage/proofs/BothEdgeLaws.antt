-- Both edges of a store as the code goes through them, from open pins and edges: what each step is handed, what is made, and what is written.
use Rattle.model.proofs.Prelude.{ℕ, ◌≤◌, ◌<◌, ◌+◌, ◌*◌, ◌≡◌, List, length, arith}
use Rattle.model.specs.Base.{bit}
use Rattle.model.specs.Netlist.{Netlist, path_total}
use Rattle.model.specs.Path.{Edge, rising, falling}
use Rattle.model.specs.Detect.{Test, has_edge}
use Rattle.model.specs.Store.{max_runs}
use Rattle.netlist.specs.Tables.{CircuitTables}
use Rattle.netlist.specs.declared.inner.Shape.{Shape}
use Rattle.run_lists.specs.RunLists.{Sound}
use Rattle.record_test.specs.declared.inner.InputEdges.{InputEdges}
use Rattle.store_words.specs.Sound.{FewRuns, edge_words}
use Rattle.detection.specs.Cases.{Case, case_of}
use Rattle.detection.specs.Walks.{Detects}
use Rattle.single_intervals.specs.Edges.{EdgeAt, SomeEdgeAt}
use Rattle.store_coverage.specs.Covers.{held_runs, JoinReady, Covers}
use Rattle.store_coverage.specs.Both.{joined, CoversBoth}
use Rattle.store_coverage.specs.Stage.{BothMade, SomeBothMade, work_stage, StageIs}
use Rattle.store_coverage.specs.declared.inner.edges.Over.{Over}
use Rattle.store_writing.specs.declared.inner.Change.{Change}
use Rattle.store_coverage.proofs.BothLaws.{covers-both}
use Rattle.store_coverage.proofs.EdgesLaws.{same_memory, memory-few, ready-to-join, edge-covered}
use Rattle.single_stage.specs.LegalStage.{PinsOf, WorkReady}
use Rattle.std.specs.Prelude.{Option, Result}
use Rattle.model.specs.declared.Refusal.{Refusal}

-- the inputs that make an edge
abbrev inputs_of : InputEdges → Edge → ℕ
inputs_of edges rising = edges.rises
inputs_of edges falling = edges.falls

pins-edge : {N : Netlist} {t : Test} {masks : List ℕ} {edges : InputEdges} → PinsOf N t masks edges → (e : Edge) (j : ℕ) → j < N.inputs
    → bit (inputs_of edges e) j ≡ has_edge t e j
pins-edge p rising = p.rise
pins-edge p falling = p.fall

edge_at : {N : Netlist} {t : Test} {file ps cs masks : List ℕ} {edges : InputEdges} {shape : Shape} → CircuitTables N file ps cs shape → PinsOf N t masks edges
    → (e : Edge) {work : List ℕ} → 8 * max_runs ≤ length work → EdgeAt (case_of N t e) file ps cs masks (inputs_of edges e) shape work
edge_at c p e l = record { tables = c; open_pins = record { opens = p.open_pins.opens }; makes_edge = pins-edge p e; room = omega arith }

-- Both edges, where the detected runs are those of any case that the tables are of
module _ {file ps cs masks : List ℕ} {edges : InputEdges} {shape : Shape} {ws work : List ℕ} (h : WorkReady file ps cs masks edges shape ws work) where
  pub work-few : FewRuns ws
  work-few = memory-few h.stage.memory

  long : (work' : List ℕ) → length work' ≡ length work → 8 * max_runs ≤ length work'
  long work' l = omega (arith, h.stage.memory.work_length)

  pub some-edge : (e : Edge) {work' : List ℕ} → length work' ≡ length work → SomeEdgeAt file ps cs masks (inputs_of edges e) shape work'
  some-edge e {work' = work'} l = record { case = case_of h.stage.circuit h.test e; at_edge = edge_at h.stage.tables h.pins e (long work' l) }

  pub join_ready : (e : Edge) {work₁ work₂ : List ℕ} → length work₁ ≡ length work → length work₂ ≡ length work → {q : (Option ℕ)}
      → ((K : Case) → EdgeAt K file ps cs masks (inputs_of edges e) shape work₁ → Detects K work₁ work₂ q) → {held : List ℕ} → held ≡ edge_words ws e
      → {target : ℕ} → 2 * max_runs ≤ target → target + max_runs ≤ 4 * max_runs → JoinReady q held work₂ target
  join_ready e {work₁ = work₁} l₁ l₂ found is low high =
      let d = found (case_of h.stage.circuit h.test e) (edge_at h.stage.tables h.pins e (long work₁ l₁)) in
      ready-to-join d h.stage.memory e is file h.stage.tables.legal l₂ low high

  pub both-covered : {work₁ work₂ work₃ work₄ : List ℕ} → length work₂ ≡ length work → {up down : (Option ℕ)}
      → ((K : Case) → EdgeAt K file ps cs masks edges.rises shape work → Detects K work work₁ up) → {heldUp : List ℕ} → heldUp ≡ edge_words ws rising → {a : Result Change Over}
      → ((K : Case) (w : List ℕ) → Detects K w work₁ up → Sound (path_total K.netlist) (held_runs heldUp) → Covers K (held_runs heldUp) w work₂ (2 * max_runs) a)
      → ((K : Case) → EdgeAt K file ps cs masks edges.falls shape work₂ → Detects K work₂ work₃ down) → {heldDown : List ℕ} → heldDown ≡ edge_words ws falling
      → {b : Result Change Over}
      → ((K : Case) (w : List ℕ) → Detects K w work₃ down → Sound (path_total K.netlist) (held_runs heldDown) → Covers K (held_runs heldDown) w work₄ (3 * max_runs) b)
      → {q : Result (Change × Change) Over} → q ≡ joined a b → (N : Netlist) (t : Test) → CircuitTables N file ps cs shape → PinsOf N t masks edges → CoversBoth N t ws work work₄ q
  both-covered {work₂ = work₂} l fr hr jr ff hf jf is N t c p =
      let m = same_memory h.stage c in
      let up = fr (case_of N t rising) (edge_at c p rising (long work (λ i. length work))) in
      let down = ff (case_of N t falling) (edge_at c p falling (long work₂ l)) in
      covers-both (edge-covered up m rising hr jr) (edge-covered down m falling hf jf) is

-- What is written, for every netlist that the tables are of
module _ {file ps cs masks : List ℕ} {edges : InputEdges} {shape : Shape} {ws work : List ℕ} (h : WorkReady file ps cs masks edges shape ws work)
    {b : Result (Change × Change) Over} {work' : List ℕ} (same : length work' ≡ length work)
    (covers : (N : Netlist) (t : Test) → CircuitTables N file ps cs shape → PinsOf N t masks edges → CoversBoth N t ws work work' b) where
  both-made : (N : Netlist) (t : Test) → CircuitTables N file ps cs shape → PinsOf N t masks edges → BothMade N t ws work work' b
  both-made N t c p = record { memory = same_memory h.stage c; same_length_of = same; covers = covers N t c p }

  pub work-writes : SomeBothMade b ws work'
  work-writes = record {
    circuit = h.stage.circuit;
    test = h.test;
    found = work;
    made = both-made h.stage.circuit h.test h.stage.tables h.pins;
  }

  pub work-written : {ws' : List ℕ} {r : (Result (Unit {0}) Refusal)}
      → ((N : Netlist) (t : Test) (found : List ℕ) → BothMade N t ws found work' b → StageIs (work_stage N t ws) ws ws' found work' r)
      → (N : Netlist) (t : Test) → CircuitTables N file ps cs shape → PinsOf N t masks edges → StageIs (work_stage N t ws) ws ws' work work' r
  work-written writes N t c p = writes N t work (both-made N t c p)
