-- The end of an audit: the length of its test file, then the place Report, on the store that the test calls leave.
use Rattle.std.specs.Prelude.{◌≡◌, Bool, true, false, ◌&&◌, List, [], ◌∷◌, ℕ, ◌/◌, ◌%◌, leb, eqb}
use Rattle.model.specs.Base.{Answer, refused, value, ◌into◌, ◌then◌, checks, passes}
use Rattle.model.specs.Refusals.{refusal_number_of}
use Rattle.model.specs.Store.{max_tests, runs_by_edge, store_rules}
use Rattle.model.specs.Report.{report_record, report_rules}
use Rattle.audit_block.specs.RecordsTaken.{left_store}
use Rattle.std.specs.Prelude.{Result, Ok, Err}
use Rattle.model.specs.declared.Refusal.{Refusal}
use Rattle.model.specs.Returned.{answer_of}

-- a file of `total` bytes is a whole number of records, of `each` bytes, and not over `max_tests` of them
abbrev pub whole_length_of : ℕ → ℕ → Bool
whole_length_of each total = eqb (total % each) 0 && leb (total / each) max_tests

-- The place Report, with the store that the test calls leave: the number of a refusal, or that store
abbrev pub reported : ℕ → ℕ → List ℕ → List ℕ → Answer (List ℕ)
reported testCount paths report left = checks (report_rules report (report_record testCount paths (runs_by_edge left))) then value left

pub record Judged (r : Result (Unit {0}) Refusal) (testCount paths : ℕ) (report ws ws' : List ℕ) : Type 0 where
  pub answer : answer_of r ≡ passes (reported testCount paths report ws)
  pub store : ws' ≡ left_store (reported testCount paths report ws)

-- ---- An audit in pieces

-- The end: 33 by the length of the whole file, then the state, then the report
unfoldable pub end_by : ℕ → ℕ → ℕ → List ℕ → Answer (List ℕ) → Answer (List ℕ)
end_by each paths total report x =
    checks ((33, whole_length_of each total) ∷ [])
    then x
    into λ left. reported (total / each) paths report left

-- a store that is checked: 40 to 42
abbrev pub store_checked : ℕ → List ℕ → Answer (List ℕ)
store_checked paths ws = checks (store_rules paths ws) then value ws

-- The end: that it accepts, or the number of the refusal
abbrev pub ended_of : Result (Unit {0}) ℕ → Answer (Unit {0})
ended_of (Ok tt) = value tt
ended_of (Err n) = refused n

-- what the pieces answered, as their caller keeps it: 0 says that every record was taken, any other number is that of the first refusal
unfoldable pub so_far : ℕ → List ℕ → Answer (List ℕ)
so_far first ws = elim (eqb first 0) [ true ↦ value ws | false ↦ refused first ]

-- 33 by the length of the whole file, the first refusal, 40 to 42, then the report
unfoldable pub end_legal_of : ℕ → ℕ → ℕ → ℕ → List ℕ → List ℕ → Answer (List ℕ)
end_legal_of each paths total first report ws = end_by each paths total report (so_far first ws into λ left. store_checked paths left)
