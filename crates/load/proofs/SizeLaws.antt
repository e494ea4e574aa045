-- The bytes of records and of vectors' records, and the state after one number of steps and another.
use Rattle.model.proofs.Prelude.{ℕ, ◌≤◌, ◌<◌, ◌+◌, ◌-◌, ◌*◌, suc, zero, ◌≡◌, ◌∙◌, ap, refl, Bool, List, [], ◌++◌, length, length-append, set}
use Rattle.model.proofs.Prelude.{length-set, suc-mul, arith}
use native.Mathlib.Nat.{mul-pos, mul-le-mul}
use Rattle.model.specs.Encode.{test_bytes}
use Rattle.model.specs.Path.{Edge, rising, falling}
use Rattle.model.specs.Read.{vector_bytes_of}
use Rattle.model.proofs.FieldLaws.{length-little_endian}
use Rattle.load.specs.Load.{Pair, input_test, tests_from, load_tests, packed, record_bytes, file_bytes, load_records_of, vector_records}
use Rattle.gate_packed_pins.specs.Packed.{pack_bits}
use Rattle.load_vectors.specs.Drawing.{next_state_of, state_after, drawn}
use Rattle.load.specs.Answers.{record_size, vector_size_of}
use Rattle.load.proofs.VectorSteps.{length-drawn}

-- the sizes are small
pub size_small : (inputs bytes : ℕ) → inputs ≤ 64 → bytes ≤ 8 → inputs * (2 * (2 + 2 * bytes)) ≤ 2304
size_small inputs bytes h l = mul-le-mul {n₁ = inputs} {m₁ = 2 * (2 + 2 * bytes)} {n₂ = 64} {m₂ = 36} h (omega arith)

pub length-packed : (v : List Bool) → length (packed v) ≡ vector_bytes_of (length v)
length-packed v = length-little_endian (vector_bytes_of (length v)) (pack_bits v)

-- a test whose vectors have so many inputs
pub record Wide (n : ℕ) (t : Pair) : Type 0 where
  pub first : length t.v1 ≡ n
  pub second : length t.v2 ≡ n

pub length-record : (n : ℕ) (t : Pair) → Wide n t → length (record_bytes t) ≡ record_size n
unfolding record_bytes test_bytes
length-record n t w =
    let a : length (packed t.v1) ≡ vector_bytes_of n = length-packed t.v1 ∙ ap vector_bytes_of w.first in
    let b : length (packed t.v2) ≡ vector_bytes_of n = length-packed t.v2 ∙ ap vector_bytes_of w.second in
    omega (arith, length-append (packed t.v1) (packed t.v2))

-- an input's tests have the vector's inputs
pub test-wide : (v : List Bool) (j : ℕ) (e : Edge) → Wide (length v) (input_test v j e)
unfolding input_test
test-wide v j rising = record { first = length-set (set v j _) j _ ∙ length-set v j _; second = length-set v j _ }
test-wide v j falling = record { first = length-set (set v j _) j _ ∙ length-set v j _; second = length-set v j _ }

length-tests : (v : List Bool) (j n : ℕ) → length (file_bytes (tests_from v j n)) ≡ n * (2 * record_size (length v))
unfolding tests_from file_bytes
length-tests v j zero = omega arith
length-tests v j (suc n) =
    let up : List ℕ = record_bytes (input_test v j rising) in
    let down : List ℕ = record_bytes (input_test v j falling) in
    let rest : List ℕ = file_bytes (tests_from v (suc j) n) in
    let a : length (up ++ (down ++ rest)) ≡ length up + length (down ++ rest) = length-append up (down ++ rest) in
    let b : length (down ++ rest) ≡ length down + length rest = length-append down rest in
    let c : length up ≡ record_size (length v) =
    length-record (length v) (input_test v j rising) (test-wide v j rising) in
    let d : length down ≡ record_size (length v) =
    length-record (length v) (input_test v j falling) (test-wide v j falling) in
    let i : length rest ≡ n * (2 * record_size (length v)) = length-tests v (suc j) n in
    let m : suc n * (2 * record_size (length v)) ≡ n * (2 * record_size (length v)) + 2 * record_size (length v) =
    suc-mul n (2 * record_size (length v)) in
    omega arith

-- One vector's records have this size
pub length-load : (n s : ℕ) → length (load_records_of n s) ≡ vector_size_of n
unfolding load_records_of load_tests
length-load n s = length-tests (drawn n s) 0 n ∙ ap (λ k. n * (2 * record_size k)) (length-drawn n s)

-- it is at most 2,304 bytes, and no less than one
pub size-most : (n : ℕ) → n ≤ 64 → vector_size_of n ≤ 2304
size-most n h = let b : vector_bytes_of n ≤ 8 = omega arith in size_small n (vector_bytes_of n) h b

pub size-positive : (n : ℕ) → 1 ≤ n → 0 < vector_size_of n
size-positive n h = mul-pos {m = n} {n = 2 * record_size n} h (omega arith)

-- The steps of one vector after another
pub after-add : (m n s : ℕ) → state_after (m + n) s ≡ state_after n (state_after m s)
unfolding state_after
after-add zero n s = let e : 0 + n ≡ n = omega arith in ap (λ k. state_after k s) e
after-add (suc m) n s =
    let e : suc m + n ≡ suc (m + n) = omega arith in ap (λ k. state_after k s) e ∙ after-add m n (next_state_of s)

pub vectors-next : (n k s : ℕ) → 0 < k
    → vector_records n k s ≡ load_records_of n s ++ vector_records n (k - 1) (state_after n s)
unfolding vector_records
vectors-next n zero s h = absurd (omega arith)
vectors-next n (suc k) s h = let e : suc k - 1 ≡ k = omega arith in rw e refl

pub no-vectors : (n s : ℕ) → vector_records n 0 s ≡ []
unfolding vector_records
no-vectors n s = refl
