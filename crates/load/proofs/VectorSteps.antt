-- One vector's records as they are written, input by input, and the records of one vector after another.
use Rattle.model.proofs.Prelude.{ℕ, ◌≤◌, ◌<◌, ◌+◌, ◌-◌, ◌*◌, suc, ◌^◌, zero, ◌/◌, ◌%◌, ◌≡◌, ◌∙◌, ap, refl, sym, ap₂, true, Bool, false, not, List, []}
use Rattle.model.proofs.Prelude.{◌∷◌, ◌++◌, length, get_or, length-append, set, length-set, sets, get_or-set_same, suc-mul, mul-le-mul_right, add-one}
use Rattle.model.proofs.Prelude.{arith, rules}
use lib.Pow.{pow_mono}
use lib.Seq.{set-set}
use Rattle.model.specs.Base.{little_endian}
use Rattle.model.specs.Encode.{test_bytes}
use Rattle.model.specs.Path.{Edge, rising, falling}
use Rattle.model.specs.Read.{vector_bytes_of}
use Rattle.record_bytes.proofs.ByteLaws.{sets_append}
use Rattle.model.proofs.FieldLaws.{length-little_endian}
use Rattle.load.specs.Load.{Pair, final_value, inverted_at, input_test, tests_from, load_tests, packed, record_bytes, file_bytes, load_records_of}
use Rattle.gate_packed_pins.specs.Packed.{pack_bits}
use Rattle.load_vectors.specs.Drawing.{next_state_of, drawn}
use Rattle.load_vectors.specs.DrawnVector.{DrawnTrue}
use Rattle.load.specs.Answers.{vector_size_of}
use Rattle.load_vectors.specs.declared.inner.Drawn.{Drawn}
use Rattle.gate_packed_pins.proofs.PackBitsLaws.{bits_small}
use Rattle.load.proofs.VectorWordLaws.{lowered_is, raised_is}

pub length-drawn : (n s : ℕ) → length (drawn n s) ≡ n
unfolding drawn
length-drawn zero s = refl
length-drawn (suc n) s = ap suc (length-drawn n (next_state_of s))

-- an input that has a value, inverted
inverted_set : (v : List Bool) (j : ℕ) (b : Bool) → j < length v → inverted_at j (set v j b) ≡ set v j (not b)
inverted_set v j b h =
    set-set v j b (not (get_or (set v j b) j false)) ∙ ap (λ x. set v j (not x)) (get_or-set_same v j b false h)

-- the two vectors of a test: the input before and after its edge
pub test-is : (v : List Bool) (j : ℕ) (e : Edge) → j < length v
    → input_test v j e ≡ record { v1 = set v j (not (final_value e)); v2 = set v j (final_value e) }
unfolding input_test
test-is v j e h =
    ap (λ (x : List Bool). record { v1 = x; v2 = set v j (final_value e) }) (inverted_set v j (final_value e) h)

packed-set : (v : List Bool) (j : ℕ) (b : Bool) (bytes word : ℕ) → bytes ≡ vector_bytes_of (length v)
    → word ≡ pack_bits (set v j b) → packed (set v j b) ≡ little_endian bytes word
packed-set v j b bytes word p q = ap₂ little_endian (ap vector_bytes_of (length-set v j b) ∙ sym p) (sym q)

module _ (v : List Bool) (j bytes low high : ℕ) (inside : j < length v) (size : bytes ≡ vector_bytes_of (length v)) (lowIs : low ≡ pack_bits (set v j false))
    (highIs : high ≡ pack_bits (set v j true)) where
  rising-bytes : record_bytes (input_test v j rising) ≡ test_bytes (little_endian bytes low) (little_endian bytes high)
  unfolding record_bytes
  rising-bytes =
      ap record_bytes (test-is v j rising inside)
      ∙ ap₂ test_bytes (packed-set v j false bytes low size lowIs) (packed-set v j true bytes high size highIs)

  falling-bytes : record_bytes (input_test v j falling) ≡ test_bytes (little_endian bytes high) (little_endian bytes low)
  unfolding record_bytes
  falling-bytes =
      ap record_bytes (test-is v j falling inside)
      ∙ ap₂ test_bytes (packed-set v j true bytes high size highIs) (packed-set v j false bytes low size lowIs)

pub length-test : (bytes x y : ℕ) → length (test_bytes (little_endian bytes x) (little_endian bytes y)) ≡ 2 + 2 * bytes
unfolding test_bytes
length-test bytes x y =
    omega (arith, length-append (little_endian bytes x) (little_endian bytes y), length-little_endian bytes x, length-little_endian bytes y)

tests-next : (v : List Bool) (j n : ℕ) → 0 < n
    → tests_from v j n ≡ input_test v j rising ∷ input_test v j falling ∷ tests_from v (j + 1) (n - 1)
unfolding tests_from
tests-next v j zero h = absurd (omega arith)
tests-next v j (suc n) h = let e : suc n - 1 ≡ n = omega arith in rw (add-one j, e) refl

bytes_next : (t u : Pair) (ts : List Pair) → file_bytes (t ∷ u ∷ ts) ≡ record_bytes t ++ (record_bytes u ++ file_bytes ts)
unfolding file_bytes
bytes_next t u ts = refl

no-tests : (v : List Bool) (j : ℕ) → file_bytes (tests_from v j 0) ≡ []
unfolding tests_from file_bytes
no-tests v j = refl

-- two records written, and the rest to write, are what was to write before
module _ (xs ys rest l a b : List ℕ) (place size : ℕ) (lx : length xs ≡ size) (ly : length ys ≡ size) (p : a ≡ sets l place xs) (q : b ≡ sets a (place + size) ys) where
  two-put : sets b (place + 2 * size) rest ≡ sets l place (xs ++ (ys ++ rest))
  two-put =
      let i : place + size ≡ place + length xs = omega arith in
      let k : place + 2 * size ≡ place + size + length ys = omega arith in
      ap (λ (z : List ℕ). sets z (place + 2 * size) rest) q
      ∙ sets_append ys rest a (place + size) (place + 2 * size) k
      ∙ ap (λ (z : List ℕ). sets z (place + size) (ys ++ rest)) p
      ∙ sets_append xs (ys ++ rest) l place (place + size) i

-- what is written, and the records that are left to write, give the whole
pub record Writing (inputs state size at : ℕ) (found records : List ℕ) (place input : ℕ) : Type 0 where
  pub most : input ≤ inputs
  pub long : length records ≡ length found
  pub stands : place ≡ at + input * (2 * size)
  pub whole : sets records place (file_bytes (tests_from (drawn inputs state) input (inputs - input))) ≡ sets found at (load_records_of inputs state)

module _ (inputs state bytes at : ℕ) (found : List ℕ) where
  pub write_first : Writing inputs state (2 + 2 * bytes) at found found at 0
  unfolding load_records_of load_tests
  write_first =
      let n : inputs - 0 ≡ inputs = omega arith in
      record {
        most = omega arith;
        long = refl;
        stands = omega arith;
        whole = ap (λ k. sets found at (file_bytes (tests_from (drawn inputs state) 0 k))) n;
      }

  module _ (records : List ℕ) (place input : ℕ) (w : Writing inputs state (2 + 2 * bytes) at found records place input) where
    pub write_last : inputs ≤ input → records ≡ sets found at (load_records_of inputs state)
    write_last h =
        let n : inputs - input ≡ 0 = omega arith in
        let e : file_bytes (tests_from (drawn inputs state) input (inputs - input)) ≡ [] =
        ap (λ k. file_bytes (tests_from (drawn inputs state) input k)) n ∙ no-tests (drawn inputs state) input in
        sym (ap (λ (z : List ℕ). sets records place z) e) ∙ w.whole

    module _ (few : inputs ≤ 64) (sized : bytes ≡ vector_bytes_of inputs) (more : input < inputs) where
      room : at + vector_size_of inputs ≤ length found → place + 2 * (2 + 2 * bytes) ≤ length records
      room h =
          let each : ℕ = 2 * (2 + 2 * bytes) in
          let m : suc input * each ≤ inputs * each = mul-le-mul_right {m = suc input} {n = inputs} each more in
          let s : suc input * each ≡ input * each + each = suc-mul input each in
          let v : inputs * each ≡ vector_size_of inputs = ap (λ k. inputs * (2 * (2 + 2 * k))) sized in
          omega (arith, w.long, w.stands)

      -- so there is room for the rising record, and for the falling one after it
      pub write_rising : at + vector_size_of inputs ≤ length found → place + 2 + 2 * bytes ≤ length records
      write_rising h = omega (arith, room h)

      pub write_falling : at + vector_size_of inputs ≤ length found → (a : List ℕ) → length a ≡ length records
          → place + (2 + 2 * bytes) + 2 + 2 * bytes ≤ length a
      write_falling h a same = omega (arith, room h)

      pub write_second : at + vector_size_of inputs ≤ length found → length found < 2 ^ 64
          → place + (2 + 2 * bytes) < 2 ^ 64
      write_second h l = omega (arith, room h, w.long)

      pub write_place : at + vector_size_of inputs ≤ length found → length found < 2 ^ 64
          → place + 2 * (2 + 2 * bytes) < 2 ^ 64
      write_place h l = omega (arith, room h, w.long)

      module _ (d : Drawn) (t : DrawnTrue d inputs state) (low bit : ℕ) (bitIs : bit ≡ 2 ^ input)
          (lowIs : low ≡ d.vector - d.vector / 2 ^ input % 2 * 2 ^ input) where
        inside : input < length (drawn inputs state)
        inside = omega (arith, length-drawn inputs state)

        low_word : low ≡ pack_bits (set (drawn inputs state) input false)
        low_word = lowered_is (drawn inputs state) input inside d.vector t.vector_is low lowIs

        high_word : low + bit ≡ pack_bits (set (drawn inputs state) input true)
        high_word =
            ap (λ k. low + k) bitIs ∙ raised_is (drawn inputs state) input inside d.vector t.vector_is low lowIs

        pub write_fits : low + bit < 2 ^ 64
        write_fits =
            let v : List Bool = set (drawn inputs state) input true in
            let l : length (set (drawn inputs state) input true) ≡ inputs = length-set (drawn inputs state) input true ∙ length-drawn inputs state in
            let s : pack_bits v < 2 ^ length v = bits_small v in
            let p : 2 ^ length v ≤ 2 ^ 64 = pow_mono {i = length v} {j = 64} (omega arith) in
            omega (arith, high_word)

        pub write_next : (a b : List ℕ)
            → a ≡ sets records place (test_bytes (little_endian bytes low) (little_endian bytes (low + bit)))
            → b ≡ sets a (place + (2 + 2 * bytes)) (test_bytes (little_endian bytes (low + bit)) (little_endian bytes low))
            → length b ≡ length records
            → Writing inputs state (2 + 2 * bytes) at found b (place + 2 * (2 + 2 * bytes)) (input + 1)
        write_next a b p q same =
            let size : ℕ = 2 + 2 * bytes in
            let high : ℕ = low + bit in
            let sizedV : bytes ≡ vector_bytes_of (length (drawn inputs state)) = sized ∙ ap vector_bytes_of (sym (length-drawn inputs state)) in
            let up = rising-bytes (drawn inputs state) input bytes low high inside sizedV low_word high_word in
            let down = falling-bytes (drawn inputs state) input bytes low high inside sizedV low_word high_word in
            let n : inputs - input - 1 ≡ inputs - (input + 1) = omega arith in
            let rest : List Pair = tests_from (drawn inputs state) (input + 1) (inputs - (input + 1)) in
            let xs : List ℕ = test_bytes (little_endian bytes low) (little_endian bytes high) in
            let ys : List ℕ = test_bytes (little_endian bytes high) (little_endian bytes low) in
            let left : file_bytes (tests_from (drawn inputs state) input (inputs - input)) ≡ xs ++ (ys ++ file_bytes rest) =
            ap file_bytes (tests-next (drawn inputs state) input (inputs - input) (omega arith))
            ∙ bytes_next (input_test (drawn inputs state) input rising) (input_test (drawn inputs state) input falling) (tests_from (drawn inputs state) (input + 1) (inputs - input - 1))
            ∙ ap₂ (λ (x y : List ℕ). x ++ (y ++ file_bytes (tests_from (drawn inputs state) (input + 1) (inputs - input - 1)))) up down
            ∙ ap (λ k. xs ++ (ys ++ file_bytes (tests_from (drawn inputs state) (input + 1) k))) n in
            let each : ℕ = 2 * (2 + 2 * bytes) in
            let s : suc input * each ≡ input * each + each = suc-mul input each in
            let t : (input + 1) * each ≡ suc input * each = ap (λ k. k * each) (add-one input) in
            record {
              most = omega arith;
              long = same ∙ w.long;
              stands = omega (arith, w.stands);
              whole =
                  two-put xs ys (file_bytes rest) records a b place size (length-test bytes low high) (length-test bytes high low) p q
                  ∙ sym (ap (λ (z : List ℕ). sets records place z) left)
                  ∙ w.whole;
            }

pub ruleset write-cases =
    (write_first, write_last, write_rising, write_falling, write_second, write_place, write_fits, write_next, rules)
