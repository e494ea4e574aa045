-- Document 01's answer for each case of the store's enums, and the calls once the netlist is read.
use Rattle.std.specs.Prelude.{◌≡◌, Bool, List, [], ◌∷◌, ◌++◌, ℕ, ◌*◌}
use Rattle.model.specs.Base.{Answer, value, ◌then◌, checks}
use Rattle.model.specs.Runs.{in_runs}
use Rattle.model.specs.Path.{edge_of_fault, path_of_fault}
use Rattle.model.specs.Read.{within}
use Rattle.model.specs.Store.{ByEdge, store_runs, store_rules}
use Rattle.model.specs.Calls.{empty_call, emptied_store}
use Rattle.store_words.specs.WordAnswers.{totals_both}
pub use Rattle.store_words.specs.WordAnswers.{totals_among}
use Rattle.std.specs.Prelude.{Result}
use Rattle.model.specs.declared.Refusal.{Refusal}
use Rattle.model.specs.Returned.{answer_of}

-- Emptying the store, of any words: its answer and the words afterwards are those of the definition
pub record EmptyTrue (r : Result (Unit {0}) Refusal) (ws ws' : List ℕ) : Type 0 where
  pub answer : answer_of r ≡ empty_call ws
  pub store : ws' ≡ emptied_store ws

-- document 01's totals once store length and netlist are passed, for path numbers 1 to `paths`
unfoldable pub totals_on_of : ℕ → List ℕ → Answer (ByEdge ℕ)
totals_on_of paths ws = checks (store_rules paths ws) then value (totals_both ws)

-- document 01's question for a fault once store length and netlist are passed, for path numbers 1 to `paths`
unfoldable pub fault_on_of : ℕ → List ℕ → ℕ → Answer Bool
fault_on_of paths ws fault =
    checks (store_rules paths ws ++ ((60, within 1 (2 * paths) fault) ∷ []))
    then value (in_runs (store_runs ws (edge_of_fault fault)) (path_of_fault fault))
