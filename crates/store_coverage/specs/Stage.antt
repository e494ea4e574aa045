-- The place Work for one record, with 86 before it, after the rules of the places Test and Store: what is handed over, what is made, answered and left.
use Rattle.std.specs.Prelude.{◌≡◌, List, [], ◌∷◌, ◌++◌, ℕ, ◌≤◌, length, drop}
use Rattle.model.specs.Base.{Answer, refused, value, ◌then◌, Rule, checks, passes, after}
use Rattle.model.specs.Netlist.{Netlist, path_total}
use Rattle.model.specs.Detect.{Test}
use Rattle.model.specs.Read.{test_rules}
use Rattle.model.specs.Store.{store_words_count, store_rules, tests_taken_of, runs_by_edge}
use Rattle.model.specs.Calls.{work_words_count, tests_rule, work_rules, Tested, store_left, tested}
use Rattle.model.specs.Refusals.{refusal_number_of}
use Rattle.model.specs.declared.Refusal.{Refusal}
use Rattle.netlist.specs.Tables.{CircuitTables}
use Rattle.netlist.specs.declared.inner.Shape.{Shape}
use Rattle.store_coverage.specs.Both.{CoversBoth}
use Rattle.store_coverage.specs.declared.inner.edges.Over.{Over}
use Rattle.store_writing.specs.declared.inner.Change.{Change}
use Rattle.std.specs.Prelude.{Result, Ok, Err}
use Rattle.model.specs.Returned.{answer_of}

-- a store that no rule refuses, and working memory long enough
pub record MemoryReady (N : Netlist) (store work : List ℕ) : Type 0 where
  pub store_length : length store ≡ store_words_count
  pub sound : checks (store_rules (path_total N) store) ≡ value tt
  pub work_length : work_words_count ≤ length work

pub record StageReady (netlist positions counts : List ℕ) (shape : Shape) (store work : List ℕ) : Type 0 where
  pub circuit : Netlist
  pub tables : CircuitTables circuit netlist positions counts shape
  pub memory : MemoryReady circuit store work

-- what was made in the words of both edges of a sound store, with words as they were found before
pub record BothMade (N : Netlist) (t : Test) (ws found work : List ℕ) (b : Result (Change × Change) Over) : Type 0 where
  pub memory : MemoryReady N ws found
  pub same_length_of : length work ≡ length found
  pub covers : CoversBoth N t ws found work b

-- the same for some test
pub record SomeBothMade (b : Result (Change × Change) Over) (ws work : List ℕ) : Type 0 where
  pub circuit : Netlist
  pub test : Test
  pub found : List ℕ
  pub made : BothMade circuit test ws found work b

-- the rules of the places Test and Store
abbrev pub place_rules : Netlist → List ℕ → List ℕ → List Rule
place_rules N rec ws = test_rules N rec ++ store_rules (path_total N) ws

-- 86, or another refusal after it
abbrev pub refused_after : List ℕ → Refusal → Answer (Unit {0})
refused_after ws why = checks (tests_rule ws ∷ []) then refused (refusal_number_of why)

-- the store that a stage leaves
unfoldable pub store_after : Answer Tested → List ℕ → List ℕ
store_after x ws = after x ws store_left

-- 86 and the place Work alone, for a test whose record and store no rule of the places Test and Store refuses
unfoldable pub work_stage : Netlist → Test → List ℕ → Answer Tested
work_stage N t ws = checks (tests_rule ws ∷ work_rules N (runs_by_edge ws) t) then value (tested N (tests_taken_of ws) (runs_by_edge ws) t)

-- whether it is taken and the store are those of the stage `x`; working memory past its first 8,192 words is as found
pub record StageIs (x : Answer Tested) (ws ws' work work' : List ℕ) (r : Result (Unit {0}) Refusal) : Type 0 where
  pub answer : answer_of r ≡ passes x
  pub store : ws' ≡ store_after x ws
  pub same_length_of : length work' ≡ length work
  pub past_work : drop work_words_count work' ≡ drop work_words_count work
