-- The true report of a test file that was walked over: its bytes in a buffer, and its length.
use Rattle.std.specs.Prelude.{◌≡◌, List, ◌++◌, ℕ, length, drop}
use Rattle.model.specs.Base.{Answer, refused, value, ◌into◌, after}
use Rattle.model.specs.Report.{writer_call}
use Rattle.testfile_judged.specs.declared.writing.Written.{Written}
use Rattle.model.specs.Returned.{answer_of}

-- the length of a report, 0 where there is none
abbrev pub length_in : Answer ℕ → ℕ
length_in (refused n) = 0
length_in (value k) = k

-- the buffer afterwards: the report and what stood past it, or as found
abbrev pub with_report : Answer (List ℕ) → List ℕ → List ℕ
with_report x found = after x found (λ written. written ++ drop (length written) found)

-- the writer after records that answered `x`
unfoldable pub writer_after : List ℕ → Answer (List ℕ) → List ℕ → Answer (List ℕ)
writer_after netlist x found = x into λ ws. writer_call netlist ws found

-- A report, or a refusal: the answer, the report's length, and the bytes of the buffer
pub record Wrote (r : Written) (report : Answer (List ℕ)) (found left : List ℕ) : Type 0 where
  pub answer : answer_of r.answer ≡ (report into λ written. value (length written))
  pub size : r.length ≡ length_in (report into λ written. value (length written))
  pub bytes : left ≡ with_report report found
