-- The way from the root of a tree to the leaf that answers for a number.
use Rattle.std.specs.Prelude.{true, false, List, [], ◌∷◌, ℕ, zero, suc, ltb, eqb}
use Rattle.tree_words.specs.TreeLayout.{levels_in, root_in, second_at_of, third_at, child1, child2, child3}

-- the child below which a number lies, if it lies below the node
unfoldable pub child_for : List ℕ → ℕ → ℕ → ℕ
child_for ws a k =
    elim (ltb k (second_at_of ws a)) [
      | true ↦ child1 ws a
      | false ↦ elim (eqb (child3 ws a) 0) [ true ↦ child2 ws a | false ↦ elim (ltb k (third_at ws a)) [ true ↦ child2 ws a | false ↦ child3 ws a ] ]
    ]

-- the nodes, each by the word where it stands, that the children so chosen lead through, from a node `h` levels above the leaves to a leaf
unfoldable pub way_from : List ℕ → ℕ → ℕ → ℕ → List ℕ
way_from ws zero a k = a ∷ []
way_from ws (suc h) a k = a ∷ way_from ws h (child_for ws a k) k

-- in a tree of `n` levels, none where it has no level
abbrev pub way_of : List ℕ → ℕ → ℕ → ℕ → List ℕ
way_of ws zero a k = []
way_of ws (suc h) a k = way_from ws h a k

-- The nodes from the root to the leaf that answers for a number
unfoldable pub way_to : List ℕ → ℕ → List ℕ
way_to ws k = way_of ws (levels_in ws) (root_in ws) k
