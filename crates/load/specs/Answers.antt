-- What the load's functions promise: document 01's number and values for each case of their answers, and the lent bytes afterwards.
use Rattle.std.specs.Prelude.{◌≡◌, List, ℕ, ◌+◌, ◌*◌}
use Rattle.model.specs.Base.{Answer}
use Rattle.model.specs.Read.{vector_bytes_of}
use Rattle.model.specs.Returned.{answer_by}
use Rattle.load.specs.Calls.{Handed, load_answer, load_buffer}
use Rattle.std.specs.Prelude.{Result}
use Rattle.load.specs.declared.LoadWritten.{LoadWritten}
use Rattle.model.specs.declared.Refusal.{Refusal}

-- the load call: the state afterwards, and the length of the records
abbrev pub loaded_of : Result LoadWritten Refusal → Answer Handed
loaded_of = answer_by (λ w. record { state = w.state; written = w.length })

-- The load call: its answer, and every byte of the buffer afterwards
pub record LoadTrue (r : Result LoadWritten Refusal) (state inputs : ℕ) (found left : List ℕ) : Type 0 where
  pub answer : loaded_of r ≡ load_answer state inputs found
  pub buffer : left ≡ load_buffer state inputs found

-- the bytes of a test record, and of one vector's records: a rising test and a falling one for each input
abbrev pub record_size : ℕ → ℕ
record_size inputs = 2 + 2 * vector_bytes_of inputs

abbrev pub vector_size_of : ℕ → ℕ
vector_size_of inputs = inputs * (2 * record_size inputs)
