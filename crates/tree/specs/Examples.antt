-- Worked by hand: the words of small trees, and what is to be said of them.
use Rattle.std.specs.Prelude.{List, [], ◌∷◌, ℕ, set}
use Rattle.model.specs.Runs.{Run}
use Rattle.tree_words.specs.Calls.{run_of}

-- the runs 1..3, at word 4, and 5..5, at word 7, below a root at word 10; the next node would stand at word 18
abbrev pub two_leaves : List ℕ
two_leaves = 2 ∷ 10 ∷ 18 ∷ 0 ∷ 1 ∷ 3 ∷ 3 ∷ 5 ∷ 5 ∷ 1 ∷ 1 ∷ 5 ∷ 4 ∷ 5 ∷ 0 ∷ 4 ∷ 7 ∷ 0 ∷ []

abbrev pub two_runs_of : List Run
two_runs_of = run_of 1 3 ∷ run_of 5 5 ∷ []

-- the runs 2..2, 4..5 and 9..9 at words 4, 7 and 10, below a root at word 13 with three children
abbrev pub three_leaves : List ℕ
three_leaves = 2 ∷ 13 ∷ 21 ∷ 0 ∷ 2 ∷ 2 ∷ 1 ∷ 4 ∷ 5 ∷ 2 ∷ 9 ∷ 9 ∷ 1 ∷ 2 ∷ 9 ∷ 4 ∷ 4 ∷ 9 ∷ 4 ∷ 7 ∷ 10 ∷ []

abbrev pub three_runs : List Run
three_runs = run_of 2 2 ∷ run_of 4 5 ∷ run_of 9 9 ∷ []

-- words that are no tree, each the words of the first with some words changed: a root with a total of 5, a root with one child, a tree of
-- three levels, a leaf of four numbers in 1..3, a free word inside the root, and the run 4..5, adjacent to 1..3, in place of 5..5
abbrev pub wrong_total : List ℕ
wrong_total = set two_leaves 12 5

abbrev pub one_child : List ℕ
one_child = set two_leaves 16 0

abbrev pub one_level_more : List ℕ
one_level_more = set two_leaves 0 3

abbrev pub wrong_leaf : List ℕ
wrong_leaf = set two_leaves 6 4

abbrev pub wrong_free : List ℕ
wrong_free = set two_leaves 2 17

abbrev pub adjacent_leaves : List ℕ
adjacent_leaves = set (set (set (set two_leaves 7 4) 9 2) 12 5) 13 4
