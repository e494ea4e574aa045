-- A test load that anyone can repeat: the two tests per input of a vector that is drawn (load_vectors/specs/Drawing), and their records.
-- A test is here a pair of vectors: a load does not depend on the class in which its tests are judged.
-- Names: s is a state, v a vector (a value for each input, input 0 first), j an input, e an edge.
use Rattle.std.specs.Prelude.{Bool, true, false, not, List, [], ◌∷◌, ◌++◌, ℕ, zero, suc, length, get_or, set}
use Rattle.model.specs.Base.{little_endian}
use Rattle.model.specs.Encode.{test_bytes}
use Rattle.model.specs.Path.{Edge, rising, falling}
use Rattle.model.specs.Read.{vector_bytes_of}
use Rattle.gate_packed_pins.specs.Packed.{pack_bits}
use Rattle.load_vectors.specs.Drawing.{state_after, drawn}

-- the value of an input after its edge
abbrev pub final_value : Edge → Bool
final_value rising = true
final_value falling = false

-- a vector with one input inverted
abbrev pub inverted_at : ℕ → List Bool → List Bool
inverted_at j v = set v j (not (get_or v j false))

-- The two vectors of a test, a value for each input, input 0 first
pub record Pair : Type 0 where
  pub v1 : List Bool
  pub v2 : List Bool

-- The test of an input and an edge: V2 is the vector with that input at its final value, V1 is V2 with it inverted
unfoldable pub input_test : List Bool → ℕ → Edge → Pair
input_test v j e = record { v1 = inverted_at j (set v j (final_value e)); v2 = set v j (final_value e) }

-- a rising test and a falling one for each of `n` inputs from input j upward
unfoldable pub tests_from : List Bool → ℕ → ℕ → List Pair
tests_from v j zero = []
tests_from v j (suc n) = input_test v j rising ∷ input_test v j falling ∷ tests_from v (suc j) n

-- The tests of the vector that is drawn from state s for `n` inputs: two per input, for input 0 upward
unfoldable pub load_tests : ℕ → ℕ → List Pair
load_tests n s = tests_from (drawn n s) 0 n

-- a vector in whole bytes: input j is bit j mod 8 of byte j / 8, and spare bits are zero (Passes.antt says so by document 01's own reading)
abbrev pub packed : List Bool → List ℕ
packed v = little_endian (vector_bytes_of (length v)) (pack_bits v)

-- the record of a test, and the records of tests end to end
unfoldable pub record_bytes : Pair → List ℕ
record_bytes t = test_bytes (packed t.v1) (packed t.v2)

unfoldable pub file_bytes : List Pair → List ℕ
file_bytes [] = []
file_bytes (t ∷ ts) = record_bytes t ++ file_bytes ts

-- One vector's records
unfoldable pub load_records_of : ℕ → ℕ → List ℕ
load_records_of n s = file_bytes (load_tests n s)

-- The records of so many vectors; the state goes on from vector to vector
unfoldable pub vector_records : ℕ → ℕ → ℕ → List ℕ
vector_records n zero s = []
vector_records n (suc vectors) s = load_records_of n s ++ vector_records n vectors (state_after n s)
