-- What document 02 says of every tree, as one statement.
use Rattle.std.specs.Prelude.{◌≡◌, true, List, [], ℕ, suc, ◌+◌, ◌^◌, ◌≤◌, ◌<◌, T, length, get_or}
use Rattle.model.specs.Base.{value}
use Rattle.model.specs.Path.{Edge}
use Rattle.model.specs.Runs.{Run, in_run, in_runs, separated_runs_of}
use Rattle.model.specs.Store.{max_runs, store_runs}
use Rattle.tree_words.specs.TreeShape.{Levels, leaves}
use Rattle.tree_words.specs.TreeLayout.{tree_words_count, levels_in, root_in, run_in_of, tree_at, tree_runs, sound_words_of}
use Rattle.tree_words.specs.Ways.{way_to}
use Rattle.tree_words.specs.Calls.{max_number, emptied_tree, insert_call, delete_call, Holding, Asked, holds_call}

-- insertions and deletions one after the other, each as it is promised, whether taken or refused, lead from the words `ws` to `ws'`
pub data Changes : List ℕ → List ℕ → Type 0 where
  no_more : {ws : List ℕ} → Changes ws ws
  insertion : {ws ws1 ws' : List ℕ} (r : Run) → Holding (insert_call ws r) ws ws1 → Changes ws1 ws' → Changes ws ws'
  deletion : {ws ws1 ws' : List ℕ} (r : Run) → Holding (delete_call ws r) ws ws1 → Changes ws1 ws' → Changes ws ws'

-- the words' tree, `h` levels above its leaves: all leaves equally deep, two or three children below an inner node, every recorded number
-- true (`Levels`), and the runs held are its leaves
pub record Shaped (ws : List ℕ) (h : ℕ) : Type 0 where
  pub levels : Levels (suc h) (tree_at ws h (root_in ws))
  pub runs : leaves (tree_at ws h (root_in ws)) ≡ tree_runs ws

-- the nodes visited are those on the way from the root to a leaf, and the number is held exactly where that leaf's run holds it; they are as
-- many as the tree's levels, 0 for an empty tree, otherwise at most 1 plus the greatest w with 2^w at most the runs held
pub record VisitedTrue (ws : List ℕ) (k : ℕ) (a : Asked) : Type 0 where
  pub way : a.visited ≡ length (way_to ws k)
  pub leaf : (h : ℕ) → levels_in ws ≡ suc h → a.held ≡ in_run (run_in_of ws (get_or (way_to ws k) h 0)) k
  pub levels : a.visited ≡ levels_in ws
  pub none : tree_runs ws ≡ [] → a.visited ≡ 0
  pub most : (w : ℕ) → 2 ^ w ≤ length (tree_runs ws) → length (tree_runs ws) < 2 ^ suc w → a.visited ≤ 1 + w

pub record TreesTrue : Type 0 where
  pub shape : (ws : List ℕ) → sound_words_of ws ≡ true → (h : ℕ) → levels_in ws ≡ suc h → Shaped ws h
  pub empty : (ws : List ℕ) → sound_words_of ws ≡ true → levels_in ws ≡ 0 → tree_runs ws ≡ []
  -- the runs held ascend, none adjacent to another or overlapping it, and they are at most 1,024
  pub apart : (ws : List ℕ) → sound_words_of ws ≡ true → T (separated_runs_of max_number 1 (tree_runs ws))
  pub few : (ws : List ℕ) → sound_words_of ws ≡ true → length (tree_runs ws) ≤ max_runs
  -- the leaves are the store's runs for the same faults: those of an edge that pass the store's rules, for path numbers 1 to `paths`
  pub same_faults : (ws store : List ℕ) (e : Edge) (paths : ℕ) → sound_words_of ws ≡ true → paths ≤ max_number → T (separated_runs_of paths 1 (store_runs store e))
      → ((k : ℕ) → 1 ≤ k → k ≤ max_number → in_runs (tree_runs ws) k ≡ in_runs (store_runs store e) k) → tree_runs ws ≡ store_runs store e
  pub visited : (ws : List ℕ) (k : ℕ) (a : Asked) → holds_call ws k ≡ value a → VisitedTrue ws k a
  -- no list of changes leads to words that are refused with 88
  pub stays : (ws ws' : List ℕ) → tree_words_count ≤ length ws → Changes (emptied_tree ws) ws' → sound_words_of ws' ≡ true
  -- words freed by deletion serve again: whatever changes came before, an insertion is answered by the runs held alone
  pub by_runs_of : (ws ws' : List ℕ) (r : Run) → tree_words_count ≤ length ws → tree_words_count ≤ length ws' → sound_words_of ws ≡ true → sound_words_of ws' ≡ true
      → tree_runs ws ≡ tree_runs ws' → insert_call ws r ≡ insert_call ws' r
