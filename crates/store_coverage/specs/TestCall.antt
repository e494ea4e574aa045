-- What a test answers, by the faults counted before and after the stage.
use Rattle.std.specs.Prelude.{◌≡◌, List, ℕ, ◌≤◌, ◌^◌, length, drop}
use Rattle.model.specs.Base.{Answer, value, ◌into◌}
use Rattle.model.specs.Netlist.{Netlist, path_total}
use Rattle.model.specs.Detect.{Test}
use Rattle.model.specs.Calls.{work_words_count, FaultCounts, Tested}
use Rattle.model.specs.Returned.{answer_by}
use Rattle.store_words.specs.WordAnswers.{totals_in, totals_both}
use Rattle.store_words.specs.declared.inner.StoreTotals.{StoreTotals}
use Rattle.store_coverage.specs.Stage.{MemoryReady, store_after, work_stage, StageIs}
use Rattle.std.specs.Prelude.{Result}
use Rattle.model.specs.declared.Refusal.{Refusal}
use Rattle.store_coverage.specs.declared.TestCounts.{TestCounts}

-- the new and the held faults, edge by edge
abbrev pub counts_in : TestCounts → FaultCounts
counts_in counts = record {
  new_faults = record { on_rising = counts.new_rising; on_falling = counts.new_falling };
  held_faults = record { on_rising = counts.held_rising; on_falling = counts.held_falling };
}

-- document 01's number and values for each case
abbrev pub tested_of : Result TestCounts Refusal → Answer FaultCounts
tested_of = answer_by counts_in

-- what a stage returns
unfoldable pub returned_by : Answer Tested → Answer FaultCounts
returned_by x = x into λ t. value t.returned

-- the answer and the store are those of the stage `x`; working memory past its first 8,192 words is as found
pub record TestedIs (x : Answer Tested) (ws ws' work work' : List ℕ) (r : Result TestCounts Refusal) : Type 0 where
  pub answer : tested_of r ≡ returned_by x
  pub store : ws' ≡ store_after x ws
  pub same_length_of : length work' ≡ length work
  pub past_work : drop work_words_count work' ≡ drop work_words_count work

-- a stage on a sound store, which is the place Work of a test where it passes, and the faults that the store held before it
pub record Counting (N : Netlist) (t : Test) (x : Answer Tested) (ws ws' work work' : List ℕ) (before : StoreTotals) (r : Result (Unit {0}) Refusal) : Type 0 where
  pub memory : MemoryReady N ws work
  pub few_paths : path_total N ≤ 2 ^ 62
  pub totals : totals_in before ≡ totals_both ws
  pub stage : StageIs x ws ws' work work' r
  pub is_work : (d : Tested) → x ≡ value d → work_stage N t ws ≡ value d

-- the same of some stage
pub record SomeCounting (before : StoreTotals) (r : Result (Unit {0}) Refusal) (ws' : List ℕ) : Type 0 where
  pub circuit : Netlist
  pub test : Test
  pub made : Answer Tested
  pub held : List ℕ
  pub work : List ℕ
  pub work' : List ℕ
  pub counting : Counting circuit test made held ws' work work' before r
