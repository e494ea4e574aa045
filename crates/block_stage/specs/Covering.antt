-- One edge of one record: what covering the runs that the store holds of it is handed.
use Rattle.std.specs.Prelude.{◌≡◌, List, ◌⊎◌, ℕ, ◌+◌, ◌*◌, ◌/◌, ◌≤◌, length}
use Rattle.model.specs.Netlist.{path_total}
use Rattle.model.specs.Store.{max_runs}
use Rattle.run_lists.specs.RunLists.{Sound}
use Rattle.detection.specs.Cases.{Case}
use Rattle.store_coverage.specs.Covers.{held_runs}
use Rattle.block_intervals.specs.Spans.{ListedAt}
use Rattle.block_stage.specs.declared.covering.EdgeMarks.{EdgeMarks}
use Rattle.block_intervals.specs.Layout.{rising_sections, falling_sections}

-- a case's list, the runs that its edge holds, the edge's place among the sections, and room for a union
pub record EdgeReady (K : Case) (table offsets entries : List ℕ) (marks : EdgeMarks) (held spans ws : List ℕ) : Type 0 where
  pub listed : ListedAt K table offsets entries marks.edges marks.outs marks.inputs spans ws
  pub sound_held : Sound (path_total K.netlist) (held_runs held)
  pub few_held : length held / 2 ≤ max_runs
  pub sections : (marks.base ≡ rising_sections) ⊎ (marks.base ≡ falling_sections)
  pub high : 2 * max_runs ≤ marks.target
  pub room : 2 * (marks.target + max_runs) ≤ length ws

-- the same of some case
pub record SomeEdgeReady (table offsets entries : List ℕ) (marks : EdgeMarks) (held spans ws : List ℕ) : Type 0 where
  pub case : Case
  pub ready : EdgeReady case table offsets entries marks held spans ws
