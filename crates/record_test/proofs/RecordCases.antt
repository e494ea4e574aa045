-- A test record: its checks, its vectors as words, and the edges of its inputs.
use Rattle.model.proofs.Prelude.{ℕ, ◌≤◌, ◌<◌, ◌+◌, ◌-◌, ◌*◌, suc, ◌^◌, ◌/◌, ◌%◌, ◌≡◌, ◌∙◌, ap, refl, sym, ap₂, true, Bool, false, ◌&&◌, not, List, []}
use Rattle.model.proofs.Prelude.{◌∷◌, length, get_or, drop, take, length-drop, length-take-le, drop-cons, get_or-drop, leb, T, eqb, zero-add, arith}
use Rattle.model.proofs.Prelude.{rules, ne_eqb, eq-eqb, not-true, not-false, le-leb}
use lib.Seq.{get_or-take}
use Rattle.model.specs.Base.{Answer, refused, value, checks, bit, from_little_endian, numbers_from}
use Rattle.model.specs.Netlist.{Netlist}
use Rattle.model.specs.Read.{marked, vector_bytes_of, input_bit, vector, spare_zero_of, some_change_of, record_length, v1_part, v2_part, test_of}
use Rattle.model.specs.declared.Refusal.TheVariants as why
use Rattle.model.proofs.BoolLaws.{true→T}
use Rattle.record_bytes.proofs.PartLaws.{part-rest}
use Rattle.model.proofs.ListLaws.{get_d_map-in, take-bytes, length-numbers_from, numbers_from-at}
use Rattle.record_test.specs.Records.{RecordTrue, VectorsTrue, EdgesTrue}
use Rattle.record_test.specs.declared.inner.Vectors.{Vectors}
use Rattle.record_bytes.proofs.BitLaws.{rise-bit, fall-bit, word-bit}
use lib.Bits.{bit_and, bit_xor}
use Rattle.std.specs.Prelude.{Ok, Err}

pub edges-true : (t : Vectors) → EdgesTrue t (record { rises = bit_and (bit_xor t.v1 t.v2) t.v2; falls = bit_and (bit_xor t.v1 t.v2) t.v1 })
edges-true t = record { rise = rise-bit t.v1 t.v2; fall = fall-bit t.v1 t.v2 }

-- the bytes from k on are read
pub record Reading (part : List ℕ) (bytes word k : ℕ) : Type 0 where
  pub within : k ≤ bytes
  pub small : word < 256 ^ (bytes - k)
  pub read : word ≡ from_little_endian (take (bytes - k) (drop k part))

pub read-start : (part : List ℕ) (bytes : ℕ) → Reading part bytes 0 bytes
read-start part bytes = let z : bytes - bytes ≡ 0 = omega arith in record { within = omega arith; small = rw z (omega arith); read = rw z refl }

module _ {part : List ℕ} {bytes : ℕ} (few : bytes ≤ 8) (inside : bytes ≤ length part) {word k : ℕ} (r : Reading part bytes word k) where
  pub read-room : 0 < k → word < 2 ^ 56
  read-room l = small-words (bytes - k) word (omega (arith, r.within)) r.small
    where
      small-words : (n w : ℕ) → n ≤ 7 → w < 256 ^ n → w < 2 ^ 56
      small-words n w m q = native.Mathlib.Nat.lt_of_lt_of_le q (native.Mathlib.Nat.pow-le-pow_right {n = 256} (omega arith) m)

  pub read_step : {b : ℕ} → 0 < k → b < 256 → b ≡ get_or part (k - 1) 0 → Reading part bytes (256 * word + b) (k - 1)
  read_step {b} l s e =
      let n : bytes - (k - 1) ≡ suc (bytes - k) = omega (arith, r.within) in
      let k' : suc (k - 1) ≡ k = omega arith in
      let d : drop (k - 1) part ≡ get_or part (k - 1) 0 ∷ drop k part = drop-cons part (k - 1) 0 (omega (arith, r.within)) ∙ ap (λ j. get_or part (k - 1) 0 ∷ drop j part) k' in
      record {
        within = omega (arith, r.within);
        small = rw n (more (bytes - k) word b r.small s);
        read = rw (n, d) (omega (arith, r.read));
      }
    where
      more : (n w b : ℕ) → w < 256 ^ n → b < 256 → 256 * w + b < 256 ^ suc n
      more n w b q s = rw native.Mathlib.Nat.pow-suc (omega arith)

  pub read_done : k ≤ 0 → word ≡ from_little_endian (take bytes part)
  read_done z =
      let n : bytes - k ≡ bytes = omega arith in
      let m : k ≡ 0 = omega arith in
      rw (n, m) at r.read

-- the place Test for four tests
abbrev place : Bool → Bool → Bool → Bool → Answer (Unit {0})
place a b c d = checks ((30, a) ∷ (31, b) ∷ (32, c) ∷ (85, d) ∷ [])

test-30 : (a b c d : Bool) → a ≡ false → refused 30 ≡ place a b c d
test-30 a b c d e = rw e refl

test-31 : (a b c d : Bool) → a ≡ true → b ≡ false → refused 31 ≡ place a b c d
test-31 a b c d e f = rw (e, f) refl

test-32 : (a b c d : Bool) → a ≡ true → b ≡ true → c ≡ false → refused 32 ≡ place a b c d
test-32 a b c d e f g = rw (e, f, g) refl

test-85 : (a b c d : Bool) → a ≡ true → b ≡ true → c ≡ true → d ≡ false → refused 85 ≡ place a b c d
test-85 a b c d e f g h = rw (e, f, g, h) refl

test-none : (a b c d : Bool) → a ≡ true → b ≡ true → c ≡ true → d ≡ true → value tt ≡ place a b c d
test-none a b c d e f g h = rw (e, f, g, h) refl

and_known : (a b : Bool) → a ≡ true → a && b ≡ b
and_known a b e = rw e refl

-- a test that the code made and went on
pub test-passed : {a b : Bool} → a ≡ b → not a ≡ false → T b
test-passed {a} e h = true→T _ (sym e ∙ not-false a h)

module _ (inputs : ℕ) (test : List ℕ) (bytes : ℕ) (eb : bytes ≡ vector_bytes_of inputs) where
  -- the tests of the place Test
  right_length : Netlist → Bool
  right_length N = eqb (length test) (record_length N)

  right_mark : Bool
  right_mark = marked 0x54 0x50 test

  no_spare : Netlist → Bool
  no_spare N = spare_zero_of N.inputs (v1_part N test) && spare_zero_of N.inputs (v2_part N test)

  changes : Netlist → Bool
  changes N = some_change_of N.inputs (v1_part N test) (v2_part N test)

  pub wrong_length : (length test ≡ 2 + 2 * bytes → ⊥) → RecordTrue (Err why.RecordLength) inputs test
  unfolding right_length right_mark no_spare changes
  wrong_length h = record {
    answer = λ N e. test-30 (right_length N) right_mark (no_spare N) (changes N)
        (ne_eqb (length test) (record_length N) (λ q. h (q ∙ ap (λ i. 2 + 2 * vector_bytes_of i) e ∙ ap (λ b. 2 + 2 * b) (sym eb))));
  }

  module _ (l : length test ≡ 2 + 2 * bytes) where
    length-right : (N : Netlist) → N.inputs ≡ inputs → eqb (length test) (record_length N) ≡ true
    length-right N e = eq-eqb (length test) (record_length N) (l ∙ ap (λ b. 2 + 2 * b) eb ∙ ap (λ i. 2 + 2 * vector_bytes_of i) (sym e))

    mark-is : leb 2 (length test) && marked 0x54 0x50 test ≡ marked 0x54 0x50 test
    mark-is = and_known (leb 2 (length test)) (marked 0x54 0x50 test) (le-leb 2 (length test) (omega arith))

    pub wrong_mark : (m : Bool) → m ≡ (leb 2 (length test) && marked 0x54 0x50 test) → not m ≡ true → RecordTrue (Err why.RecordMark) inputs test
    unfolding right_length right_mark no_spare changes
    wrong_mark m em h = record {
      answer = λ N e. test-31 (right_length N) right_mark (no_spare N) (changes N) (length-right N e) (sym (em ∙ mark-is) ∙ not-true m h);
    }

    module _ (m : Bool) (em : m ≡ (leb 2 (length test) && marked 0x54 0x50 test)) (hm : not m ≡ false)
        (z₁ : Bool) (e₁ : z₁ ≡ spare_zero_of inputs (take (length test - 2) (drop 2 test))) where
      mark-right : marked 0x54 0x50 test ≡ true
      mark-right = sym (em ∙ mark-is) ∙ not-false m hm

      first-is : (N : Netlist) → N.inputs ≡ inputs → spare_zero_of N.inputs (v1_part N test) ≡ z₁
      first-is N e = ap (λ i. spare_zero_of i (drop 2 test)) e ∙ ap (spare_zero_of inputs) (sym (part-rest 2 test)) ∙ sym e₁

      pub spare-first : not z₁ ≡ true → RecordTrue (Err why.SpareBit) inputs test
      unfolding right_length right_mark no_spare changes
      spare-first h = record {
        answer = λ N e.
            let f : spare_zero_of N.inputs (v1_part N test) ≡ false = first-is N e ∙ not-true z₁ h in
            test-32 (right_length N) right_mark (no_spare N) (changes N) (length-right N e) mark-right (rw f refl);
      }

      module _ (h₁ : not z₁ ≡ false) (z₂ : Bool) (e₂ : z₂ ≡ spare_zero_of inputs (take (length test - (2 + bytes)) (drop (2 + bytes) test))) where
        both-are : (N : Netlist) → N.inputs ≡ inputs → (spare_zero_of N.inputs (v1_part N test) && spare_zero_of N.inputs (v2_part N test)) ≡ z₂
        both-are N e =
            and_known (spare_zero_of N.inputs (v1_part N test)) (spare_zero_of N.inputs (v2_part N test)) (first-is N e ∙ not-false z₁ h₁)
            ∙ ap (λ i. spare_zero_of i (drop (2 + vector_bytes_of i) test)) e ∙ ap (λ b. spare_zero_of inputs (drop (2 + b) test)) (sym eb)
            ∙ ap (spare_zero_of inputs) (sym (part-rest (2 + bytes) test)) ∙ sym e₂

        pub spare-second : not z₂ ≡ true → RecordTrue (Err why.SpareBit) inputs test
        unfolding right_length right_mark no_spare changes
        spare-second h = record {
          answer = λ N e. test-32 (right_length N) right_mark (no_spare N) (changes N) (length-right N e) mark-right (both-are N e ∙ not-true z₂ h);
        }

        module _ (h₂ : not z₂ ≡ false) (d : Bool)
            (e₃ : d ≡ some_change_of inputs (take (length test - 2) (drop 2 test)) (take (length test - (2 + bytes)) (drop (2 + bytes) test))) where
          change_is : (N : Netlist) → N.inputs ≡ inputs → some_change_of N.inputs (v1_part N test) (v2_part N test) ≡ d
          change_is N e =
              ap (λ i. some_change_of i (drop 2 test) (drop (2 + vector_bytes_of i) test)) e ∙ ap (λ b. some_change_of inputs (drop 2 test) (drop (2 + b) test)) (sym eb)
              ∙ ap₂ (some_change_of inputs) (sym (part-rest 2 test)) (sym (part-rest (2 + bytes) test)) ∙ sym e₃

          pub pair-unchanged : not d ≡ true → RecordTrue (Err why.UnchangedPair) inputs test
          unfolding right_length right_mark no_spare changes
          pair-unchanged h = record {
            answer = λ N e. test-85 (right_length N) right_mark (no_spare N) (changes N) (length-right N e) mark-right (both-are N e ∙ not-false z₂ h₂)
                (change_is N e ∙ not-true d h);
          }

          pub record_legal : not d ≡ false → RecordTrue (Ok tt) inputs test
          unfolding right_length right_mark no_spare changes
          record_legal h = record {
            answer = λ N e. test-none (right_length N) right_mark (no_spare N) (changes N) (length-right N e) mark-right (both-are N e ∙ not-false z₂ h₂)
                (change_is N e ∙ not-false d h);
          }

-- the value of an input in a vector
vector-at : (i : ℕ) (bs : List ℕ) (j : ℕ) → j < i → get_or (vector i bs) j false ≡ input_bit bs j
vector-at i bs j h =
    get_d_map-in (input_bit bs) (numbers_from 0 i) j 0 false (omega (arith, length-numbers_from 0 i))
    ∙ ap (input_bit bs) (numbers_from-at i 0 j h ∙ zero-add j)

-- a vector that is read as a word from the part that begins at `at`
part-bits : (test : List ℕ) (at inputs bytes w : ℕ) → ((i : ℕ) → get_or test i 0 < 256) → bytes ≡ vector_bytes_of inputs → at + bytes ≤ length test
    → w ≡ from_little_endian (take bytes (take (length test - at) (drop at test))) → (j : ℕ) → j < inputs → bit w j ≡ get_or (vector inputs (drop at test)) j false
part-bits test at inputs bytes w s eb h e j l =
    let q : j / 8 < bytes = rw eb (omega arith) in
    let n : length (take bytes (drop at test)) ≡ bytes = length-take-le bytes (drop at test) (simp length-drop (omega arith)) in
    let w' : w ≡ from_little_endian (take bytes (drop at test)) = e ∙ ap (λ x. from_little_endian (take bytes x)) (part-rest at test) in
    let small : (i : ℕ) → get_or (take bytes (drop at test)) i 0 < 256 = take-bytes bytes (drop at test) (λ k. rw get_or-drop (s (at + k))) in
    let b : get_or (take bytes (drop at test)) (j / 8) 0 ≡ get_or (drop at test) (j / 8) 0 = get_or-take bytes (drop at test) (j / 8) 0 q in
    ap (λ x. bit x j) w' ∙ word-bit (take bytes (drop at test)) small j (omega arith)
    ∙ ap (λ x. bit x (j % 8)) b ∙ sym (vector-at inputs (drop at test) j l)

module _ {test : List ℕ} {inputs bytes : ℕ} (small : (i : ℕ) → get_or test i 0 < 256) (eb : bytes ≡ vector_bytes_of inputs) (l : length test ≡ 2 + 2 * vector_bytes_of inputs) where
  pub vectors-true : {r : Vectors} → r.v1 ≡ from_little_endian (take bytes (take (length test - 2) (drop 2 test)))
      → r.v2 ≡ from_little_endian (take bytes (take (length test - (2 + bytes)) (drop (2 + bytes) test))) → VectorsTrue r inputs test
  unfolding test_of
  vectors-true {r} e₁ e₂ = record {
    first = λ N c e j h.
        part-bits test 2 inputs bytes r.v1 small eb (omega arith) e₁ j h ∙ ap (λ i. get_or (vector i (drop 2 test)) j false) (sym e);
    second = λ N c e j h.
        part-bits test (2 + bytes) inputs bytes r.v2 small eb (omega arith) e₂ j h
        ∙ ap (λ b. get_or (vector inputs (drop (2 + b) test)) j false) eb
        ∙ ap (λ i. get_or (vector i (drop (2 + vector_bytes_of i) test)) j false) (sym e);
  }

pub ruleset record-cases = (wrong_length, wrong_mark, spare-first, spare-second, pair-unchanged, record_legal, rules)
