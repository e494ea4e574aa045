-- The load call, and what the program make_load writes, each as a function of what it is handed.
-- Names: state is the state handed over, inputs the number of inputs, buffer the lent bytes, bs the bytes of load.bin.
use Rattle.std.specs.Prelude.{true, false, List, [], ◌∷◌, ◌++◌, ℕ, leb, length, drop, Option, Some, None}
use Rattle.model.specs.Base.{Answer, value, ◌into◌, ◌then◌, Rule, checks, after}
use Rattle.model.specs.Read.{within}
use Rattle.load_request.specs.Requests.{Request}
use Rattle.load_vectors.specs.Drawing.{state_after}
use Rattle.load.specs.Load.{load_records_of, vector_records}

-- bytes of a buffer for one vector's records, at the least: 128 records of 18 bytes
abbrev pub load_buffer_bytes : ℕ
load_buffer_bytes = 2304

-- a buffer under 2,304 bytes is 4, then an input count outside 1 to 64 is 11
abbrev pub load_rules : ℕ → List ℕ → List Rule
load_rules inputs buffer = (4, leb load_buffer_bytes (length buffer)) ∷ (11, within 1 64 inputs) ∷ []

-- One call writes one vector's records
unfoldable pub load_call : ℕ → ℕ → List ℕ → Answer (List ℕ)
load_call state inputs buffer = checks (load_rules inputs buffer) then value (load_records_of inputs state)

-- What a call that is not refused hands back: the state afterwards, and the length of the records
pub record Handed : Type 0 where
  pub state : ℕ
  pub written : ℕ

unfoldable pub load_answer : ℕ → ℕ → List ℕ → Answer Handed
load_answer state inputs buffer =
    load_call state inputs buffer into λ r. value (record { state = state_after inputs state; written = length r })

-- nothing past the records is written, and nothing when refused
unfoldable pub load_buffer : ℕ → ℕ → List ℕ → List ℕ
load_buffer state inputs buffer = after (load_call state inputs buffer) buffer (λ r. r ++ drop (length r) buffer)

-- What the program writes: the records of all vectors, the first from the seed; another length or a refusal writes nothing
unfoldable pub program_bytes : Option Request → List ℕ
program_bytes None = []
program_bytes (Some r) = elim (within 1 64 r.inputs) [ true ↦ vector_records r.inputs r.vectors r.seed | false ↦ [] ]
