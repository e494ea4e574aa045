-- Nodes in used words of a space as facts, words that are kept, and nodes written.
use Rattle.std.specs.Prelude.{◌≡◌, true, false, List, ℕ, zero, suc, ◌+◌, ◌-◌, ◌^◌, ◌≤◌, ◌<◌, eqb, length, get_or, set}
use Rattle.model.specs.Runs.{Run, Separated}
use Rattle.tree_words.specs.TreeLayout.{low_at_of, high_at_of, total_at_of, second_at_of, third_at, child1, child2, child3, tree_words_count, sound_words_of}
use Rattle.tree_words.specs.declared.inner.Recorded.{Recorded}

pub record LeafTrue (ws : List ℕ) (start free a : ℕ) : Type 0 where
  pub begun : start ≤ a
  pub ended : a + 3 ≤ free
  pub least : 1 ≤ low_at_of ws a
  pub order : low_at_of ws a ≤ high_at_of ws a
  pub most : high_at_of ws a ≤ 2 ^ 62
  pub counted : total_at_of ws a ≡ suc (high_at_of ws a) - low_at_of ws a

pub record TwoTrue (ws : List ℕ) (start free a b c : ℕ) : Type 0 where
  pub begun : start ≤ a
  pub ended : a + 8 ≤ free
  pub no_third : child3 ws a ≡ 0
  pub low : low_at_of ws a ≡ low_at_of ws b
  pub high : high_at_of ws a ≡ high_at_of ws c
  pub second : second_at_of ws a ≡ low_at_of ws c
  pub third : third_at ws a ≡ 0
  pub apart : high_at_of ws b + 2 ≤ low_at_of ws c
  pub counted : total_at_of ws a ≡ total_at_of ws b + total_at_of ws c

pub record ThreeTrue (ws : List ℕ) (start free a b c d : ℕ) : Type 0 where
  pub begun : start ≤ a
  pub ended : a + 8 ≤ free
  pub some_third : child3 ws a ≡ 0 → ⊥
  pub low : low_at_of ws a ≡ low_at_of ws b
  pub high : high_at_of ws a ≡ high_at_of ws d
  pub second : second_at_of ws a ≡ low_at_of ws c
  pub third : third_at ws a ≡ low_at_of ws d
  pub apart : high_at_of ws b + 2 ≤ low_at_of ws c
  pub apart2 : high_at_of ws c + 2 ≤ low_at_of ws d
  pub counted : total_at_of ws a ≡ total_at_of ws b + total_at_of ws c + total_at_of ws d

-- the words at `a` are a tree, `h` levels above its leaves, in the used words start..free
pub data Good (ws : List ℕ) (start free : ℕ) : ℕ → ℕ → Type 0 where
  good-leaf : {a : ℕ} → LeafTrue ws start free a → Good ws start free 0 a
  good-two : {h a : ℕ} → TwoTrue ws start free a (child1 ws a) (child2 ws a)
      → Good ws start free h (child1 ws a) → Good ws start free h (child2 ws a) → Good ws start free (suc h) a
  good-three : {h a : ℕ} → ThreeTrue ws start free a (child1 ws a) (child2 ws a) (child3 ws a)
      → Good ws start free h (child1 ws a) → Good ws start free h (child2 ws a) → Good ws start free h (child3 ws a) → Good ws start free (suc h) a

-- a tree of `n` levels, with nothing to say of none
abbrev pub Whole : List ℕ → ℕ → ℕ → ℕ → ℕ → Type 0
Whole ws start free zero a = Unit {0}
Whole ws start free (suc h) a = Good ws start free h a

-- only the words from..to were written
pub record Kept (ws ws' : List ℕ) (from to : ℕ) : Type 0 where
  pub sized : length ws' ≡ length ws
  pub grown : from ≤ to
  pub before : (i : ℕ) → i < from → get_or ws' i 0 ≡ get_or ws i 0
  pub behind : (i : ℕ) → to ≤ i → get_or ws' i 0 ≡ get_or ws i 0

abbrev pub put_leaf_of : List ℕ → ℕ → ℕ → ℕ → List ℕ
put_leaf_of ws at l h = set (set (set ws at l) (at + 1) h) (at + 2) (h - l + 1)

unfoldable pub put_node_of : List ℕ → ℕ → ℕ → ℕ → ℕ → ℕ → ℕ → ℕ → ℕ → ℕ → List ℕ
put_node_of ws at l h t s th x y z =
    set (set (set (set (set (set (set (set ws at l) (at + 1) h) (at + 2) t) (at + 3) s) (at + 4) th) (at + 5) x) (at + 6) y) (at + 7) z

abbrev pub put_marks : List ℕ → ℕ → Recorded → ℕ → ℕ → ℕ → List ℕ
put_marks ws at m x y z = put_node_of ws at m.least m.most m.total m.second m.third x y z

abbrev pub put_two : List ℕ → ℕ → ℕ → ℕ → List ℕ
put_two ws at b c = put_node_of ws at (low_at_of ws b) (high_at_of ws c) (total_at_of ws b + total_at_of ws c) (low_at_of ws c) 0 b c 0

abbrev pub put_three_of : List ℕ → ℕ → ℕ → ℕ → ℕ → List ℕ
put_three_of ws at b c d = put_node_of ws at (low_at_of ws b) (high_at_of ws d) (total_at_of ws b + total_at_of ws c + total_at_of ws d) (low_at_of ws c) (low_at_of ws d) b c d

-- the last child, and the leaves before it; the leaves behind the first child
unfoldable pub last_child_of : List ℕ → ℕ → ℕ
last_child_of ws a = elim (eqb (child3 ws a) 0) [ true ↦ child2 ws a | false ↦ child3 ws a ]

-- separated runs of the numbers 1 to 2^62
abbrev pub Sep : List Run → Type 0
Sep rs = Separated (2 ^ 62) 1 rs

-- what the checks leave known
pub record SoundTree (ws : List ℕ) : Type 0 where
  pub long : tree_words_count ≤ length ws
  pub sound : sound_words_of ws ≡ true
