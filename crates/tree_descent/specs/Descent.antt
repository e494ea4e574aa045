-- What the functions that go from a node to a leaf promise.
use Rattle.std.specs.Prelude.{◌≡◌, Bool, true, false, List, [], ◌∷◌, ℕ, ◌+◌, ◌≤◌, leb, eqb, length}
use Rattle.model.specs.Runs.{Run, in_runs}
use Rattle.tree_words.specs.TreeLayout.{run_in_of, high_at_of, child1, child2, child3, leaves_at}
use Rattle.tree_words.specs.Ways.{way_from}
use Rattle.tree_words.specs.Calls.{Found, none, found, first_run_of, or_else}

-- a run ends at `x` or above, or begins at `x` or below
abbrev pub reaches : ℕ → Run → Bool
reaches x r = leb x r.high

abbrev pub begins : ℕ → Run → Bool
begins x r = leb r.low x

-- the last run that passes a test
unfoldable pub last_run : (Run → Bool) → List Run → Found
last_run test [] = none
last_run test (r ∷ rs) = elim (test r) [ true ↦ or_else (last_run test rs) (found r) | false ↦ last_run test rs ]

-- whether the number lies in a run below the node, and the nodes visited on the way to the leaf
pub record VisitTrue (ws : List ℕ) (h a k : ℕ) (held : Bool) (visited : ℕ) : Type 0 where
  pub answer : held ≡ in_runs (leaves_at ws h a) k
  pub way : visited ≡ length (way_from ws h a k)

-- the child below which the first run that ends at `x` or above lies, if there is one below the node
unfoldable pub child_reaching : List ℕ → ℕ → ℕ → ℕ
child_reaching ws a x =
    elim (leb x (high_at_of ws (child1 ws a))) [
      | true ↦ child1 ws a
      | false ↦ elim (eqb (child3 ws a) 0) [ true ↦ child2 ws a | false ↦ elim (leb x (high_at_of ws (child2 ws a))) [ true ↦ child2 ws a | false ↦ child3 ws a ] ]
    ]

-- the words that are read of an inner node and of its first two children
pub record Readable (ws : List ℕ) (a : ℕ) : Type 0 where
  pub node : a + 8 ≤ length ws
  pub first : child1 ws a + 3 ≤ length ws
  pub second : child2 ws a + 3 ≤ length ws

-- the first run that ends at `x` or above, and the last that begins at `x` or below, stand at word `r`
pub record Reaching (ws : List ℕ) (start free h a x r : ℕ) : Type 0 where
  pub begun : start ≤ r
  pub ended : r + 3 ≤ free
  pub first : first_run_of (reaches x) (leaves_at ws h a) ≡ found (run_in_of ws r)

pub record Starting (ws : List ℕ) (start free h a x r : ℕ) : Type 0 where
  pub begun : start ≤ r
  pub ended : r + 3 ≤ free
  pub last : last_run (begins x) (leaves_at ws h a) ≡ found (run_in_of ws r)
