-- What a viewer is answered, for each case of the code's enums, and what looking at netlist, store and places leaves known.
use Rattle.std.specs.Prelude.{◌≡◌, Bool, List, [], ◌∷◌, ◌++◌, ℕ, ◌*◌, ◌≤◌, length}
use Rattle.model.specs.Base.{Answer, refused, value, ◌into◌, ◌then◌, Rule, checks}
use Rattle.model.specs.Netlist.{Netlist, path_total}
use Rattle.model.specs.Path.{edge_of_fault, path_of_fault}
use Rattle.model.specs.Runs.{runs_among, in_runs}
use Rattle.model.specs.Read.{within, read_netlist}
use Rattle.model.specs.Store.{store_words_count, store_runs, store_rules}
use Rattle.model.specs.Refusals.{refusal_number_of}
use Rattle.netlist.specs.Tables.{CircuitTables}
use Rattle.netlist.specs.declared.inner.Shape.{Shape}
use Rattle.run_lists.specs.RunLists.{runs_in_words}
use Rattle.viewer_places.specs.Viewer.{places_rule, seen, viewer_runs_answer, viewer_runs_store}
use Rattle.viewer_ranges.specs.Ranges.{most_places}
use Rattle.std.specs.Prelude.{Result, Ok, Err}
use Rattle.model.specs.declared.Refusal.{Refusal}
use Rattle.model.specs.Returned.{answer_of}

-- Runs for a viewer: the answer and the words of the second store are those of the definition
pub record ViewTrue (r : Result (Unit {0}) Refusal) (netlist ws places second second' : List ℕ) : Type 0 where
  pub answer : answer_of r ≡ viewer_runs_answer netlist ws second places
  pub words : second' ≡ viewer_runs_store netlist ws second places

-- the rules of a store's words and of the places
abbrev pub look_rules : Netlist → List ℕ → List ℕ → List Rule
look_rules N ws places = store_rules (path_total N) ws ++ (places_rule N places ∷ [])

-- the netlist, once it, the store's words and the places are passed
unfoldable pub looked : List ℕ → List ℕ → List ℕ → Answer Netlist
looked netlist ws places = read_netlist netlist into λ N. checks (look_rules N ws places) then value N

-- what is known of a legal netlist's tables before the words are checked
pub record Opened (file counts : List ℕ) (shape : Shape) (total : ℕ) (ws : List ℕ) : Type 0 where
  pub circuit : Netlist
  pub positions : List ℕ
  pub tables : CircuitTables circuit file positions counts shape
  pub total_is : total ≡ path_total circuit
  pub long : length ws ≡ store_words_count

-- what is known when a viewer may be answered: the first `n` runs of the words are those of the path numbers that he sees
pub record Looked (file ws places words : List ℕ) (n total : ℕ) : Type 0 where
  pub circuit : Netlist
  pub passes : looked file ws places ≡ value circuit
  pub total_is : total ≡ path_total circuit
  pub runs : runs_in_words words 0 n ≡ runs_among (seen circuit places) (path_total circuit)
  pub few : n ≤ most_places

abbrev pub LookTrue : Result (ℕ × ℕ) Refusal → List ℕ → List ℕ → List ℕ → List ℕ → Type 0
LookTrue (Ok (n, total)) file ws places words = Looked file ws places words n total
LookTrue (Err w) file ws places words = looked file ws places ≡ refused (refusal_number_of w)

-- the question for a fault of path numbers 1 to `paths`, of which those in `own` may be asked
unfoldable pub asked_on : (ℕ → Bool) → List ℕ → ℕ → ℕ → Answer Bool
asked_on own ws paths fault =
    checks ((60, within 1 (2 * paths) fault) ∷ (90, own (path_of_fault fault)) ∷ [])
    then value (in_runs (store_runs ws (edge_of_fault fault)) (path_of_fault fault))
