-- A tree filled with runs: what one insertion after the other finds and leaves.
use Rattle.std.specs.Prelude.{List, [], ◌∷◌, ℕ}
use Rattle.model.specs.Runs.{Run}
use Rattle.tree_words.specs.Calls.{insert_call, Holding}

-- `rs` inserted one after the other into the words `ws`, as `tree_insert` promises each step, leave `ws'`
pub data Filled : List ℕ → List Run → List ℕ → Type 0 where
  all_in : {ws : List ℕ} → Filled ws [] ws
  one_more : {ws ws1 ws' : List ℕ} {r : Run} {rs : List Run} → Holding (insert_call ws r) ws ws1 → Filled ws1 rs ws' → Filled ws (r ∷ rs) ws'
