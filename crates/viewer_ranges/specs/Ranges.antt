-- The ranges of path numbers that a viewer sees, and what is known of a netlist and a list of places when they are made.
use Rattle.std.specs.Prelude.{List, [], ◌∷◌, ◌++◌, ℕ, suc, ◌+◌, T, ltb}
use Rattle.model.specs.Netlist.{Netlist, output_counts}
use Rattle.model.specs.Path.{counts_before}
use Rattle.model.specs.Runs.{Run, run}
use Rattle.netlist.specs.Tables.{CircuitTables}
use Rattle.netlist.specs.declared.inner.Shape.{Shape}
use Rattle.run_lists.specs.RunLists.{only_if}
use Rattle.viewer_places.specs.Viewer.{places_fit_of}

-- the most outputs of a netlist
abbrev pub most_places : ℕ
most_places = 64

-- the numbers after `before` up to `last`: one run or none
abbrev pub range : ℕ → ℕ → List Run
range before last = only_if (ltb before last) (run (before + 1) last ∷ [])

-- for each place the numbers of the paths that end there
abbrev pub ranges : Netlist → List ℕ → List Run
ranges N [] = []
ranges N (v ∷ vs) = range (counts_before v (output_counts N)) (counts_before (suc v) (output_counts N)) ++ ranges N vs

-- the tables of a legal netlist, and a viewer of it
pub record Viewable (file counts : List ℕ) (shape : Shape) (places : List ℕ) : Type 0 where
  pub circuit : Netlist
  pub positions : List ℕ
  pub tables : CircuitTables circuit file positions counts shape
  pub fits : T (places_fit_of shape.outputs places)
