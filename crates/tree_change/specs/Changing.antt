-- What insertion and deletion on sound words ask and promise.
use Rattle.std.specs.Prelude.{◌≡◌, true, List, ℕ, ◌+◌, ◌^◌, ◌≤◌, length, get_or}
use Rattle.model.specs.Runs.{Run}
use Rattle.model.specs.Store.{max_runs}
use Rattle.tree_words.specs.TreeLayout.{tree_words_count, levels_in, root_in, free_in, space_end_of, leaves_of, tree_runs, sound_words_of}
use Rattle.tree_words.specs.Calls.{run_of, runs_with, stored}
use Rattle.tree_words.specs.Nodes.{Whole, Kept, SoundTree}
use Rattle.tree_words.specs.KeptRuns.{keep_below, keep_above}
use Rattle.tree_lookup.specs.Lookup.{join_low, join_high, merged}
use Rattle.tree_join.specs.declared.inner.Part.{Part}

-- a tree of `n` levels at word `a`, in the used words start..free, with the leaves `rs`
pub record Holds (ws : List ℕ) (start free n a : ℕ) (rs : List Run) : Type 0 where
  pub whole : Whole ws start free n a
  pub runs : leaves_of ws n a ≡ rs

-- words that hold something and have room for one change
pub record Ready (ws : List ℕ) (high : ℕ) : Type 0 where
  pub tree : SoundTree ws
  pub some : levels_in ws ≡ 0 → ⊥
  pub room : free_in ws + 1100 ≤ space_end_of (root_in ws)
  pub most : high ≤ 2 ^ 62

-- the runs below low..high and those above it, as trees in the root's space
pub record Cuts (ws ws' : List ℕ) (start low high : ℕ) (u o : Part) : Type 0 where
  pub under : Holds ws' start o.free u.levels u.root (keep_below low (tree_runs ws))
  pub over : Holds ws' start o.free o.levels o.root (keep_above high (tree_runs ws))
  pub kept : Kept ws ws' (free_in ws) o.free
  pub spent : o.free ≤ free_in ws + 704
  pub few_under : u.levels ≤ 11
  pub few_over : o.levels ≤ 11

pub record InsertAsk (ws : List ℕ) (low high first last : ℕ) : Type 0 where
  pub ready : Ready ws high
  pub least : 1 ≤ low
  pub order : low ≤ high
  pub first_is : first ≡ join_low low (tree_runs ws)
  pub last_is : last ≡ join_high high (tree_runs ws)
  pub few : length (merged low high (tree_runs ws)) ≤ max_runs

pub record DeleteAsk (ws : List ℕ) (low high : ℕ) : Type 0 where
  pub ready : Ready ws high
  pub held : stored (tree_runs ws) (run_of low high) ≡ true

-- the words' tree has the runs `rs`, and no word past the tree's is written
pub record Rebuilt (ws ws' : List ℕ) (rs : List Run) : Type 0 where
  pub sized : length ws' ≡ length ws
  pub past : (i : ℕ) → tree_words_count ≤ i → get_or ws' i 0 ≡ get_or ws i 0
  pub sound : sound_words_of ws' ≡ true
  pub runs : tree_runs ws' ≡ rs

-- a run that the words have a place for, and a run that they hold
pub record Inserts (ws : List ℕ) (low high : ℕ) : Type 0 where
  pub tree : SoundTree ws
  pub least : 1 ≤ low
  pub order : low ≤ high
  pub most : high ≤ 2 ^ 62
  pub few : length (runs_with (tree_runs ws) (run_of low high)) ≤ max_runs

pub record Deletes (ws : List ℕ) (low high : ℕ) : Type 0 where
  pub tree : SoundTree ws
  pub held : stored (tree_runs ws) (run_of low high) ≡ true
