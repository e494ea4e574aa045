-- What the functions that take a part of a tree ask and promise.
use Rattle.std.specs.Prelude.{◌≡◌, List, ℕ, ◌+◌, ◌*◌, ◌≤◌}
use Rattle.model.specs.Runs.{Run}
use Rattle.tree_words.specs.TreeLayout.{leaves_of}
use Rattle.tree_join.specs.declared.inner.Part.{Part}
use Rattle.tree_words.specs.Nodes.{Good, Whole, Kept}
use Rattle.tree_join.specs.Joining.{Room}

-- a part of a tree: the leaves `rs` of those below a node of height `h`
pub record Splits (ws ws' : List ℕ) (start free h : ℕ) (rs : List Run) (p : Part) : Type 0 where
  pub whole : Whole ws' start p.free p.levels p.root
  pub leaves : leaves_of ws' p.levels p.root ≡ rs
  pub kept : Kept ws ws' free p.free
  pub spent : p.free ≤ free + (16 * (h + 1) + 16 * p.levels)
  pub at_most : p.levels ≤ h + 1

-- a node of which a part is wanted
pub record SplitInput (ws : List ℕ) (start free h a : ℕ) : Type 0 where
  pub room : Room ws start free (32 * (h + 1))
  pub small : h ≤ 10
  pub good : Good ws start free h a
