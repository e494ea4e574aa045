-- The test calls with the records of a test file, made in file order: what they answer, the store afterwards, and how many are taken.
use Rattle.std.specs.Prelude.{◌≡◌, List, [], ◌∷◌, ℕ}
use Rattle.model.specs.Base.{Answer, refused, value}
use Rattle.model.specs.Netlist.{Netlist}
use Rattle.model.specs.Detect.{Class}
use Rattle.model.specs.Refusals.{refusal_number_of}
use Rattle.model.specs.Store.{empty_store}
use Rattle.model.specs.Calls.{store_left, test_stage}
use Rattle.model.specs.Report.{file_records, test_all}
use Rattle.block_stage.specs.BlockStage.{one_more_test}
use Rattle.audit_block.specs.declared.inner.TakenRecords.{TakenRecords}
use Rattle.std.specs.Prelude.{Result, Ok, Err}
use Rattle.model.specs.declared.Refusal.{Refusal}

-- the test calls with a file's records: the number of a refusal, or the store that they leave
abbrev pub file_of : Result (Unit {0}) Refusal → List ℕ → Answer (List ℕ)
file_of (Ok tt) left = value left
file_of (Err w) left = refused (refusal_number_of w)

-- The store after an audit, refused with a number over 2: all zeros
unfoldable pub left_store : Answer (List ℕ) → List ℕ
left_store (refused n) = empty_store
left_store (value left) = left

-- how many of the records the test calls take, made in order in one class, before the first that is refused; all if none is
unfoldable pub taken_of : Netlist → Class → List (List ℕ) → List ℕ → ℕ
taken_of N c [] ws = 0
taken_of N c (r ∷ rs) ws = one_more_test (test_stage N c r ws) (λ d. taken_of N c rs (store_left d))

-- the test calls with the records of a file, made in file order: their answer, the store afterwards, and how many were taken
pub record FileTrue (r : TakenRecords) (N : Netlist) (c : Class) (test_file ws ws' : List ℕ) : Type 0 where
  pub answer : file_of r.answer ws' ≡ test_all N c (file_records N test_file) ws
  pub store : ws' ≡ left_store (test_all N c (file_records N test_file) ws)
  pub taken : r.taken ≡ taken_of N c (file_records N test_file) ws
