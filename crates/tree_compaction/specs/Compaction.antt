-- What the functions that write the head and compact the words ask and promise.
use Rattle.std.specs.Prelude.{◌≡◌, true, cond, ◌⊎◌, List, ℕ, ◌+◌, ◌≤◌, ltb, length, get_or, set}
use Rattle.model.specs.Store.{max_runs}
use Rattle.tree_words.specs.TreeLayout.{tree_words_count, upper_start, levels_in, root_in, free_in, space_end_of, leaves_of, tree_runs, sound_words_of}
use Rattle.tree_words.specs.Nodes.{Whole, Kept}

unfoldable pub put_head_of : List ℕ → ℕ → ℕ → ℕ → List ℕ
put_head_of ws levels root free = set (set (set ws 0 levels) 1 root) 2 free

-- the space that a root is not in
abbrev pub other_start_of : ℕ → ℕ
other_start_of root = cond (ltb root upper_start) upper_start 4

-- a space begins at `start`, and the words up to `free` lie in it
abbrev pub SpaceTo : ℕ → ℕ → Type 0
SpaceTo start free = ((start ≡ 4) × (free ≤ upper_start)) ⊎ ((start ≡ upper_start) × (free ≤ tree_words_count))

-- a tree that can become the words' tree
pub record RootReady (ws : List ℕ) (start levels root free : ℕ) : Type 0 where
  pub long : tree_words_count ≤ length ws
  pub space : SpaceTo start free
  pub whole : Whole ws start free levels root
  pub few : length (leaves_of ws levels root) ≤ max_runs

-- it is the words' tree
pub record RootWritten (ws ws' : List ℕ) (levels root free : ℕ) : Type 0 where
  pub kept : Kept ws ws' 0 3
  pub sound : sound_words_of ws' ≡ true
  pub levels_are : levels_in ws' ≡ levels
  pub runs : tree_runs ws' ≡ leaves_of ws levels root
  pub root_is : (levels ≡ 0 → ⊥) → root_in ws' ≡ root
  pub free_is : (levels ≡ 0 → ⊥) → free_in ws' ≡ free

-- the same runs, and room for one insertion or deletion
pub record HasSpace (ws ws' : List ℕ) : Type 0 where
  pub sized : length ws' ≡ length ws
  pub past : (i : ℕ) → tree_words_count ≤ i → get_or ws' i 0 ≡ get_or ws i 0
  pub sound : sound_words_of ws' ≡ true
  pub levels_are : levels_in ws' ≡ levels_in ws
  pub runs : tree_runs ws' ≡ tree_runs ws
  pub room : (levels_in ws ≡ 0 → ⊥) → free_in ws' + 1100 ≤ space_end_of (root_in ws')
