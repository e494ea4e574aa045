-- The words of a tree. Words 0 to 2: levels, root, free. An empty tree has zeros there, and its other words may hold anything.
-- Else `root` is the word where the root stands; every node ends at or before `free`, which is at most the end of the space. Nodes stand in
-- one of two spaces, the words 4 to 16,383 or the words 16,384 to 32,767: that of the root. A leaf is 3 words: low, high, total. An inner
-- node is 8 words: least, most, total, second, third, then the words where its children stand, 0 for a third child that it has not.
-- Nodes may have words in common, and words that no node has may hold anything.
use Rattle.std.specs.Prelude.{Bool, true, false, ◌&&◌, ◌||◌, cond, List, [], ℕ, zero, suc, ◌+◌, ◌-◌, ◌^◌, leb, ltb, eqb, length, get_or}
use Rattle.model.specs.Runs.{Run}
use Rattle.model.specs.Store.{max_runs}
use Rattle.tree_words.specs.TreeShape.{Marks, Tree, leaf, two, three, leaves}

abbrev pub tree_words_count : ℕ
tree_words_count = 32768

-- the space of a root: its first word, and the word after its last
abbrev pub upper_start : ℕ
upper_start = 16384

abbrev pub space_start_of : ℕ → ℕ
space_start_of root = cond (ltb root upper_start) 4 upper_start

abbrev pub space_end_of : ℕ → ℕ
space_end_of root = cond (ltb root upper_start) upper_start tree_words_count

-- the most levels: 1,024 runs have at most 11
abbrev pub max_levels : ℕ
max_levels = 11

abbrev pub leaf_words : ℕ
leaf_words = 3

abbrev pub node_words : ℕ
node_words = 8

abbrev pub levels_in : List ℕ → ℕ
levels_in ws = get_or ws 0 0

abbrev pub root_in : List ℕ → ℕ
root_in ws = get_or ws 1 0

abbrev pub free_in : List ℕ → ℕ
free_in ws = get_or ws 2 0

-- what is recorded at the node that stands at word `a`
abbrev pub low_at_of : List ℕ → ℕ → ℕ
low_at_of ws a = get_or ws a 0

abbrev pub high_at_of : List ℕ → ℕ → ℕ
high_at_of ws a = get_or ws (a + 1) 0

abbrev pub total_at_of : List ℕ → ℕ → ℕ
total_at_of ws a = get_or ws (a + 2) 0

abbrev pub second_at_of : List ℕ → ℕ → ℕ
second_at_of ws a = get_or ws (a + 3) 0

abbrev pub third_at : List ℕ → ℕ → ℕ
third_at ws a = get_or ws (a + 4) 0

-- the children of the inner node at word `a`
abbrev pub child1 : List ℕ → ℕ → ℕ
child1 ws a = get_or ws (a + 5) 0

abbrev pub child2 : List ℕ → ℕ → ℕ
child2 ws a = get_or ws (a + 6) 0

abbrev pub child3 : List ℕ → ℕ → ℕ
child3 ws a = get_or ws (a + 7) 0

abbrev pub run_in_of : List ℕ → ℕ → Run
run_in_of ws a = record { low = low_at_of ws a; high = high_at_of ws a }

abbrev pub marks_in : List ℕ → ℕ → Marks
marks_in ws a = record { least = low_at_of ws a; most = high_at_of ws a; total = total_at_of ws a; second = second_at_of ws a; third = third_at ws a }

-- the tree whose root stands at word `a`, `h` levels above its leaves
unfoldable pub tree_at : List ℕ → ℕ → ℕ → Tree
tree_at ws zero a = leaf (total_at_of ws a) (run_in_of ws a)
tree_at ws (suc h) a =
    elim (eqb (child3 ws a) 0) [
      | true ↦ two (marks_in ws a) (tree_at ws h (child1 ws a)) (tree_at ws h (child2 ws a))
      | false ↦ three (marks_in ws a) (tree_at ws h (child1 ws a)) (tree_at ws h (child2 ws a)) (tree_at ws h (child3 ws a))
    ]

abbrev pub leaves_at : List ℕ → ℕ → ℕ → List Run
leaves_at ws h a = leaves (tree_at ws h a)

-- the leaves of a tree of `n` levels, none where it has no level
abbrev pub leaves_of : List ℕ → ℕ → ℕ → List Run
leaves_of ws zero a = []
leaves_of ws (suc h) a = leaves_at ws h a

-- The runs that a tree's words hold
unfoldable pub tree_runs : List ℕ → List Run
tree_runs ws = leaves_of ws (levels_in ws) (root_in ws)

-- the `n` words from word `a` on are used words of the space
unfoldable pub in_space : ℕ → ℕ → ℕ → ℕ → Bool
in_space start free a n = leb start a && leb (a + n) free

-- a leaf's run is one of path numbers, and its total is true
unfoldable pub leaf_true_of : List ℕ → ℕ → Bool
leaf_true_of ws a = leb 1 (low_at_of ws a) && leb (low_at_of ws a) (high_at_of ws a) && leb (high_at_of ws a) (2 ^ 62) && eqb (total_at_of ws a) (suc (high_at_of ws a) - low_at_of ws a)

unfoldable pub leaf_sound_of : List ℕ → ℕ → ℕ → ℕ → Bool
leaf_sound_of ws start free a = in_space start free a leaf_words && leaf_true_of ws a

-- the numbers recorded at an inner node are those of its children, and its children's numbers are apart: neither adjacent nor overlapping
unfoldable pub two_sound_of : List ℕ → ℕ → ℕ → ℕ → Bool
two_sound_of ws a b c =
    eqb (low_at_of ws a) (low_at_of ws b) && eqb (high_at_of ws a) (high_at_of ws c) && eqb (second_at_of ws a) (low_at_of ws c) && eqb (third_at ws a) 0
    && leb (high_at_of ws b + 2) (low_at_of ws c) && eqb (total_at_of ws a) (total_at_of ws b + total_at_of ws c)

unfoldable pub three_sound_of : List ℕ → ℕ → ℕ → ℕ → ℕ → Bool
three_sound_of ws a b c d =
    eqb (low_at_of ws a) (low_at_of ws b) && eqb (high_at_of ws a) (high_at_of ws d) && eqb (second_at_of ws a) (low_at_of ws c) && eqb (third_at ws a) (low_at_of ws d)
    && leb (high_at_of ws b + 2) (low_at_of ws c) && leb (high_at_of ws c + 2) (low_at_of ws d) && eqb (total_at_of ws a) (total_at_of ws b + total_at_of ws c + total_at_of ws d)

unfoldable pub children_sound : List ℕ → ℕ → ℕ → ℕ → Bool
children_sound ws start free a =
    elim (eqb (child3 ws a) 0) [
      | true ↦ two_sound_of ws a (child1 ws a) (child2 ws a)
      | false ↦ in_space start free (child3 ws a) leaf_words && three_sound_of ws a (child1 ws a) (child2 ws a) (child3 ws a)
    ]

unfoldable pub node_sound_of : List ℕ → ℕ → ℕ → ℕ → Bool
node_sound_of ws start free a =
    in_space start free a node_words && in_space start free (child1 ws a) leaf_words && in_space start free (child2 ws a) leaf_words && children_sound ws start free a

-- the words at `a` are such a tree, `h` levels above its leaves, in used words of the space
unfoldable pub sound_at_of : List ℕ → ℕ → ℕ → ℕ → ℕ → Bool
sound_at_of ws start free zero a = leaf_sound_of ws start free a
sound_at_of ws start free (suc h) a =
    node_sound_of ws start free a && sound_at_of ws start free h (child1 ws a) && sound_at_of ws start free h (child2 ws a)
    && (eqb (child3 ws a) 0 || sound_at_of ws start free h (child3 ws a))

unfoldable pub sound_from : List ℕ → ℕ → Bool
sound_from ws zero = eqb (root_in ws) 0 && eqb (free_in ws) 0
sound_from ws (suc h) =
    leb (suc h) max_levels && leb (free_in ws) (space_end_of (root_in ws)) && sound_at_of ws (space_start_of (root_in ws)) (free_in ws) h (root_in ws)
    && leb (length (leaves_at ws h (root_in ws))) max_runs

-- The words are a tree in this layout
unfoldable pub sound_words_of : List ℕ → Bool
sound_words_of ws = sound_from ws (levels_in ws)
