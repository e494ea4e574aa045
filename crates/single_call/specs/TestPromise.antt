-- The test call: what it answers, and the lent memory afterwards; the checks before the place Work.
use Rattle.std.specs.Prelude.{◌≡◌, List, ℕ, ◌≤◌, ◌^◌, length}
use Rattle.model.specs.Base.{Answer, refused, value}
use Rattle.model.specs.Store.{store_words_count}
use Rattle.model.specs.Calls.{test_answer, test_store, WorkAfter}
use Rattle.model.specs.Refusals.{refusal_number_of}
use Rattle.store_coverage.specs.TestCall.{tested_of}
use Rattle.std.specs.Prelude.{Result, Ok, Err}
use Rattle.model.specs.declared.Refusal.{Refusal}
use Rattle.store_coverage.specs.declared.TestCounts.{TestCounts}

-- numbers and a store of the right length that the places Test and Store are handed
pub record CheckReady (inputs : ℕ) (ws : List ℕ) (paths : ℕ) : Type 0 where
  pub some_input : 1 ≤ inputs
  pub few_inputs : inputs ≤ 64
  pub long : length ws ≡ store_words_count
  pub few_paths : paths ≤ 2 ^ 62

-- A test call: its answer, the store and the working memory afterwards
pub record TestTrue (r : Result TestCounts Refusal) (netlist : List ℕ) (class : ℕ) (rec ws ws' work work' : List ℕ) : Type 0 where
  pub answer : tested_of r ≡ test_answer netlist class rec ws work
  pub store : ws' ≡ test_store netlist class rec ws work
  pub memory : WorkAfter netlist class ws work work'
