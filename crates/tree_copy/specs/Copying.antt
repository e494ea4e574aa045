-- What the copy of a tree asks and promises.
use Rattle.std.specs.Prelude.{◌≡◌, ◌⊎◌, List, ℕ, ◌+◌, ◌*◌, ◌≤◌, length}
use Rattle.tree_words.specs.TreeLayout.{leaves_at}
use Rattle.tree_words.specs.Nodes.{Good, Kept}

-- a tree to be copied from `to` on, 11 words for each leaf at most, past the words that it stands in or before them
pub record CopyAsk (ws : List ℕ) (start end to h a : ℕ) : Type 0 where
  pub headed : 4 ≤ to
  pub good : Good ws start end h a
  pub apart : (end ≤ to) ⊎ (to + 11 * length (leaves_at ws h a) ≤ start)
  pub inside : to + 11 * length (leaves_at ws h a) ≤ length ws

-- its copy at word `at`: the same leaves, and only words of the copy written
pub record Copies (ws ws' : List ℕ) (to h a at free : ℕ) : Type 0 where
  pub good : Good ws' to free h at
  pub leaves : leaves_at ws' h at ≡ leaves_at ws h a
  pub spent : free + 8 ≤ to + 11 * length (leaves_at ws h a)
  pub kept : Kept ws ws' to free
