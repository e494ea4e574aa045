-- The longest paths whose fault of an edge a store does not hold, one after the other: those of the greatest length first, those of one length by
-- their numbers.
use Rattle.std.specs.Prelude.{Option, Some, None, Result, ◌≡◌, true, false, List, [], ◌∷◌, ◌++◌, ℕ, ◌≤◌, ◌<◌, leb}
use Rattle.model.specs.Base.{Answer, value, ◌into◌, ◌then◌, checks}
use Rattle.model.specs.Netlist.{Netlist, path_total}
use Rattle.model.specs.Path.{Edge}
use Rattle.model.specs.Runs.{Run}
use Rattle.model.specs.Read.{read_netlist}
use Rattle.model.specs.Store.{store_runs, store_rules}
use Rattle.model.specs.Calls.{store_rule}
use Rattle.model.specs.Returned.{answer_by}
use Rattle.model.specs.declared.Refusal.{Refusal}
use Rattle.netlist.specs.declared.inner.Shape.{Shape}
use Rattle.length_rows.specs.Lengths.{lengths, length_rule}
use Rattle.length_coverage.specs.LengthAnswers.{RunsRanked, Countable}
use Rattle.length_search.specs.Untested.{Untested, no_untested, longest_from}
use Rattle.length_search.specs.declared.inner.Search.{Search}
use Rattle.length_untested.specs.declared.UntestedPath.{UntestedPath}

-- where the search begins: no path has more than 63 gates, and none has number 0
abbrev pub begin_gates : ℕ → ℕ
begin_gates gates = elim (leb gates 63) [ true ↦ gates | false ↦ 63 ]

abbrev pub begin_from : ℕ → ℕ → ℕ
begin_from gates from = elim (leb gates 63) [ true ↦ elim (leb 1 from) [ true ↦ from | false ↦ 1 ] | false ↦ 1 ]

-- once the runs are known
unfoldable pub longest_in : Netlist → List Run → ℕ → ℕ → Answer Untested
longest_in N rs gates from = checks (length_rule N ∷ []) then value (longest_from N rs gates from)

abbrev pub longest_on_of : Netlist → List ℕ → Edge → ℕ → ℕ → Answer Untested
longest_on_of N ws e gates from = longest_in N (store_runs ws e) gates from

-- The call: the first untested path of `gates` gates from number `from` on, else the first one of the greatest length below
unfoldable pub longest_call : List ℕ → List ℕ → Edge → ℕ → ℕ → Answer Untested
longest_call netlist ws e gates from =
    checks (store_rule ws ∷ [])
    then read_netlist netlist
    into λ N. checks (store_rules (path_total N) ws ++ (length_rule N ∷ []))
    then value (longest_from N (store_runs ws e) (begin_gates gates) (begin_from gates from))

-- the path that the code found, or that there is none
abbrev pub untested_of : Option UntestedPath → Untested
untested_of (Some p) = record { gates = p.gates; path = p.path }
untested_of None = no_untested

-- the papers' number of a refusal, or the path
abbrev pub longest_of : Result (Option UntestedPath) Refusal → Answer Untested
longest_of = answer_by untested_of

-- a place at which a search can begin
pub record Begins (wanted : Search) : Type 0 where
  pub short : wanted.gates < lengths
  pub low : 1 ≤ wanted.from

-- runs of path numbers in words, and where to begin
pub record Ready (file positions counts : List ℕ) (shape : Shape) (rows : List (List ℕ)) (ws : List ℕ) (wanted : Search) : Type 0 where
  pub runs : RunsRanked file positions counts shape rows ws
  pub total_is : wanted.total ≡ path_total runs.known.circuit
  pub begins : Begins wanted

-- a sound store, and where to begin
pub record Prepared (file positions counts : List ℕ) (shape : Shape) (ws : List ℕ) (wanted : Search) : Type 0 where
  pub countable : Countable file positions counts shape wanted.total ws
  pub begins : Begins wanted
