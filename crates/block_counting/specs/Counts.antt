-- The records of a block in order on a sound store, with the faults counted that each adds: a refused one leaves the store, and the next goes on.
use Rattle.std.specs.Prelude.{◌&&◌, ◌≡◌, Bool, true, false, List, ℕ, zero, suc, ◌+◌, ◌<◌, ◌≤◌, ◌^◌, length, get_or, set}
use Rattle.model.specs.Base.{Answer, refused, value}
use Rattle.model.specs.Netlist.{Netlist, path_total}
use Rattle.model.specs.Detect.{Test}
use Rattle.model.specs.Refusals.{refusal_number_of}
use Rattle.model.specs.Calls.{FaultCounts}
use Rattle.store_words.specs.WordAnswers.{totals_in, totals_both}
use Rattle.store_words.specs.declared.inner.StoreTotals.{StoreTotals}
use Rattle.store_writing.specs.declared.inner.Change.{Change}
use Rattle.store_writing.specs.declared.inner.Change.TheVariants as change
use Rattle.store_coverage.specs.Stage.{BothMade, work_stage, store_after}
use Rattle.store_coverage.specs.TestCall.{returned_by}
use Rattle.store_coverage.specs.declared.inner.edges.Over.{Over}
use Rattle.block_counting.specs.declared.inner.AnswerWords.{AnswerWords}
use Rattle.std.specs.Prelude.{Result, Ok, Err}
use Rattle.model.specs.declared.Refusal.{Refusal}
use Rattle.store_coverage.specs.declared.TestCounts.{TestCounts}

-- whether an edge's runs are kept, and those of both edges
abbrev pub keeps_edge : Change → Bool
keeps_edge change.Kept = true
keeps_edge (change.Made from to n) = false

abbrev pub keeps_both_of : Result (Change × Change) Over → Bool
keeps_both_of (Ok changes) = keeps_edge changes.0 && keeps_edge changes.1
keeps_both_of (Err o) = false

-- what a stage that keeps the store's runs answers
abbrev pub counts_kept : StoreTotals → Result (Unit {0}) Refusal → Result TestCounts Refusal
counts_kept before (Err why) = Err why
counts_kept before (Ok tt) = Ok (record { new_rising = 0; new_falling = 0; held_rising = before.rising; held_falling = before.falling })

-- what was made of both edges of a sound store, and the faults that the store held before
pub record BothCounted (N : Netlist) (t : Test) (ws found work : List ℕ) (b : Result (Change × Change) Over) (before : StoreTotals) : Type 0 where
  pub made : BothMade N t ws found work b
  pub few_paths : path_total N ≤ 2 ^ 62
  pub totals : totals_in before ≡ totals_both ws

-- the same of some test
pub record SomeBothCounted (before : StoreTotals) (b : Result (Change × Change) Over) (ws work : List ℕ) : Type 0 where
  pub circuit : Netlist
  pub test : Test
  pub found : List ℕ
  pub counted : BothCounted circuit test ws found work b before

-- the faults that a store holds after a test, from those before it
abbrev pub totals_after_of : StoreTotals → Result TestCounts Refusal → StoreTotals
totals_after_of before (Ok counts) = record { rising = counts.held_rising; falling = counts.held_falling }
totals_after_of before (Err why) = before

-- an answer as words: the new faults of each edge and 0, or 0 twice and the number of the refusal
abbrev pub words_of : Result TestCounts Refusal → AnswerWords
words_of (Ok counts) = record { rising = counts.new_rising; falling = counts.new_falling; refusal = 0 }
words_of (Err why) = record { rising = 0; falling = 0; refusal = refusal_number_of why }

-- the answer of record t in the words of all: its rising faults at t, its falling ones at 64 + t, its refusal at 128 + t
abbrev pub with_answer : List ℕ → ℕ → AnswerWords → List ℕ
with_answer answers t a = set (set (set answers t a.rising) (64 + t) a.falling) (128 + t) a.refusal

-- what the words at t say of an answer
abbrev pub Says : ℕ → ℕ → ℕ → Answer FaultCounts → Type 0
Says r f n (refused m) = n ≡ m
Says r f n (value d) = (n ≡ 0) × (r ≡ d.new_faults.on_rising) × (f ≡ d.new_faults.on_falling)

abbrev pub SaysAt : List ℕ → ℕ → Answer FaultCounts → Type 0
SaysAt answers t x = Says (get_or answers t 0) (get_or answers (64 + t) 0) (get_or answers (128 + t) 0) x

-- the store after the first t tests
unfoldable pub store_at : Netlist → (ℕ → Test) → ℕ → List ℕ → List ℕ
store_at N tests zero ws = ws
store_at N tests (suc t) ws = store_after (work_stage N (tests t) (store_at N tests t ws)) (store_at N tests t ws)

-- the store that n tests leave, and the answer of each
pub record BlockCounted (N : Netlist) (tests : ℕ → Test) (n : ℕ) (ws ws' answers : List ℕ) : Type 0 where
  pub room : length answers ≡ 192
  pub store : ws' ≡ store_at N tests n ws
  pub each : (t : ℕ) → t < n → SaysAt answers t (returned_by (work_stage N (tests t) (store_at N tests t ws)))
