-- What the converter answers.
use Rattle.std.specs.Prelude.{ℕ, ◌≡◌, List}
use Rattle.bench_text.specs.Calls.{bench_of, line_of, convert_answer, convert_line, convert_buffer}
use Rattle.std.specs.Prelude.{Result, Ok}
use Rattle.bench_circuit.specs.declared.inner.judging.LineRefusal.{LineRefusal}

-- the call's answer, the line that is refused, and the buffer afterwards
pub record ConvertTrue (r : Result ℕ LineRefusal) (text out out' : List ℕ) : Type 0 where
  pub answer : bench_of r ≡ convert_answer text out
  pub line : line_of r ≡ convert_line text out
  pub buffer : out' ≡ convert_buffer text out

-- the file is written, and has this length
abbrev pub FileWritten : ℕ → List ℕ → List ℕ → List ℕ → Type 0
FileWritten r text out out' = ConvertTrue (Ok r) text out out'
