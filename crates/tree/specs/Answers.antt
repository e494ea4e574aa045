-- The papers' answer for each case of what the code returns.
use Rattle.std.specs.Prelude.{◌≡◌, List, ℕ, Option, Some, None}
use Rattle.model.specs.Base.{Answer, refused, value, passes}
use Rattle.model.specs.Refusals.{refusal_number_of}
use Rattle.model.specs.Runs.{Run}
use Rattle.tree_words.specs.Calls.{run_of, empty_tree_call, emptied_tree, Asked, Found, none, found, Holding}
use Rattle.tree_descent.specs.declared.inner.Visit.{Visit}
use Rattle.tree.specs.declared.TreeRun.{TreeRun}
use Rattle.std.specs.Prelude.{Result, Ok, Err}
use Rattle.model.specs.declared.Refusal.{Refusal}
use Rattle.model.specs.Returned.{answer_of}

-- Emptying: its answer, and the words afterwards
pub record EmptiedTrue (r : Result (Unit {0}) Refusal) (ws ws' : List ℕ) : Type 0 where
  pub answer : answer_of r ≡ empty_tree_call ws
  pub words : ws' ≡ emptied_tree ws

abbrev pub holds_of : Result Visit Refusal → Answer Asked
holds_of (Ok v) = value (record { held = v.held; visited = v.visited })
holds_of (Err w) = refused (refusal_number_of w)

abbrev pub found_in : Option TreeRun → Found
found_in (Some r) = found (run_of r.low r.high)
found_in None = none

abbrev pub search_of : Result (Option TreeRun) Refusal → Answer Found
search_of (Ok r) = value (found_in r)
search_of (Err w) = refused (refusal_number_of w)

-- Insert and delete: their answer, and what they leave
pub record ChangedTrue (call : Answer (List Run)) (r : Result (Unit {0}) Refusal) (ws ws' : List ℕ) : Type 0 where
  pub answer : answer_of r ≡ passes call
  pub holding : Holding call ws ws'
