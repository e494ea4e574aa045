-- A packed vector, read as document 01 reads a test record: its values are the vector's, and its spare bits are zero.
use Rattle.model.proofs.Prelude.{ℕ, ◌≤◌, ◌<◌, ◌+◌, ◌-◌, ◌*◌, suc, ◌^◌, zero, ◌/◌, ◌%◌, ◌≡◌, ◌∙◌, ap, refl, sym, subst, ap₂, Bool, false, not, List}
use Rattle.model.proofs.Prelude.{[], ◌∷◌, ◌++◌, map, append-nil, length, get_or, length-map, List·getD-append, ext_get_or, drop_at, T, eqb, mod-lt, arith}
use lib.ListN.{get_or-eq_default}
use lib.Pow.{pow-add, pow_mono}
use Rattle.model.specs.Base.{value, checks, all_of, numbers_from, little_endian, bit}
use Rattle.model.specs.Detect.{Class, Test}
use Rattle.model.specs.Encode.{test_bytes}
use Rattle.model.specs.Netlist.{Netlist}
use Rattle.model.specs.Read.{vector_bytes_of, marked, input_bit, vector, spare_zero_of, record_length, v1_part, v2_part, test_of, test_rules}
use Rattle.model.specs.Unchanged.{rules_before}
use Rattle.model.proofs.UnchangedHolds.{unchanged_pairs}
use Rattle.model.proofs.AnswerLaws.{→checks}
use Rattle.model.proofs.BoolLaws.{both, false→not, eq→eqb}
use Rattle.model.proofs.ListLaws.{get_d_map-in, length-numbers_from, numbers_from-at}
use Rattle.model.proofs.ReportLaws.{little_endian-back}
use Rattle.record_bytes.proofs.BitLaws.{word-bit}
use Rattle.load.specs.Load.{Pair, packed, record_bytes}
use Rattle.gate_packed_pins.specs.Packed.{pack_bits}
use Rattle.gate_packed_pins.proofs.PackBitsLaws.{bits-at, bits_small}
use Rattle.load.proofs.SizeLaws.{length-packed, Wide, length-record}

-- the bytes of a number are bytes
bytes_small : (n k i : ℕ) → get_or (little_endian n k) i 0 < 256
bytes_small zero k i = omega arith
bytes_small (suc n) k zero = mod-lt k (omega arith)
bytes_small (suc n) k (suc i) = bytes_small n (k / 256) i

-- n bytes hold 8n bits
byte-bits : (n : ℕ) → 256 ^ n ≡ 2 ^ (8 * n)
byte-bits zero = refl
byte-bits (suc n) =
    let p : 256 ^ suc n ≡ 256 * 256 ^ n = omega arith in
    let e : 8 * suc n ≡ 8 + 8 * n = omega arith in
    let q : 2 ^ (8 * suc n) ≡ 256 * 2 ^ (8 * n) = ap (λ k. 2 ^ k) e ∙ pow-add 2 8 (8 * n) in
    p ∙ ap (λ k. 256 * k) (byte-bits n) ∙ sym q

word_held : (v : List Bool) → pack_bits v < 256 ^ vector_bytes_of (length v)
word_held v =
    let m : 2 ^ length v ≤ 2 ^ (8 * vector_bytes_of (length v)) =
    pow_mono {i = length v} {j = 8 * vector_bytes_of (length v)} (omega arith) in
    omega (arith, bits_small v, byte-bits (vector_bytes_of (length v)))

-- Input j of a packed vector, whatever bytes follow it
pub packed-bit : (v : List Bool) (rest : List ℕ) (j : ℕ) → j / 8 < vector_bytes_of (length v)
    → input_bit (packed v ++ rest) j ≡ get_or v j false
packed-bit v rest j h =
    let inside : j / 8 < length (packed v) = omega (arith, length-packed v) in
    ap (λ k. bit k (j % 8)) (List·getD-append (packed v) rest 0 (j / 8) inside)
    ∙ sym (word-bit (packed v) (bytes_small (vector_bytes_of (length v)) (pack_bits v)) j inside)
    ∙ ap (λ k. bit k j) (little_endian-back (vector_bytes_of (length v)) (pack_bits v) (word_held v))
    ∙ bits-at v j

-- so the vector is read back
pub packed-back : (v : List Bool) (rest : List ℕ) → vector (length v) (packed v ++ rest) ≡ v
packed-back v rest =
    let n : ℕ = length v in
    let bits : ℕ → Bool = input_bit (packed v ++ rest) in
    let long : length (map bits (numbers_from 0 n)) ≡ n = length-map (numbers_from 0 n) bits ∙ length-numbers_from 0 n in
    ext_get_or false (vector n (packed v ++ rest)) v long
    (λ (i : ℕ) (h : i < length (vector n (packed v ++ rest))).
    let l : i < length v = omega arith in
    let p : i < length (numbers_from 0 (length v)) = omega (arith, length-numbers_from 0 (length v)) in
    let at : get_or (numbers_from 0 (length v)) i 0 ≡ i = omega (arith, numbers_from-at (length v) 0 i l) in
    get_d_map-in bits (numbers_from 0 n) i 0 false p ∙ ap bits at ∙ packed-bit v rest i (omega arith))

-- a test that all numbers from k on pass, n of them
all-numbers : (P : ℕ → Bool) (k n : ℕ) → ((j : ℕ) → k ≤ j → j < k + n → T (P j)) → T (all_of P (numbers_from k n))
all-numbers P k zero h = tt
all-numbers P k (suc n) h =
    both (P k) (all_of P (numbers_from (suc k) n)) (h k (omega arith) (omega arith)) (all-numbers P (suc k) n (λ j a b. h j (omega arith) (omega arith)))

-- and its spare bits are zero
pub packed-spare : (v : List Bool) (rest : List ℕ) → T (spare_zero_of (length v) (packed v ++ rest))
packed-spare v rest =
    all-numbers (λ j. not (input_bit (packed v ++ rest) j)) (length v) (8 * vector_bytes_of (length v) - length v)
    (λ j a b. false→not (input_bit (packed v ++ rest) j) (packed-bit v rest j (omega arith) ∙ get_or-eq_default v false {n = j} a))

-- a pair of vectors, judged in a class
abbrev pub judged_pair : Class → Pair → Test
judged_pair c t = record { v1 = t.v1; v2 = t.v2; class = c }

-- A test's record on a netlist with as many inputs
module _ (N : Netlist) (t : Pair) (w : Wide N.inputs t) where
  first_part : v1_part N (record_bytes t) ≡ packed t.v1 ++ packed t.v2
  unfolding record_bytes test_bytes
  first_part = refl

  second-part : v2_part N (record_bytes t) ≡ packed t.v2 ++ []
  unfolding record_bytes test_bytes
  second-part =
      let l : length (0x54 ∷ 0x50 ∷ packed t.v1) ≡ 2 + vector_bytes_of N.inputs =
      omega (arith, length-packed t.v1 ∙ ap vector_bytes_of w.first) in
      drop_at (0x54 ∷ 0x50 ∷ packed t.v1) (packed t.v2) (2 + vector_bytes_of N.inputs) l ∙ sym (append-nil (packed t.v2))

  mark : T (marked 0x54 0x50 (record_bytes t))
  unfolding record_bytes test_bytes
  mark = tt

  -- its vectors are read back
  first_back : vector N.inputs (v1_part N (record_bytes t)) ≡ t.v1
  first_back =
      ap (vector N.inputs) first_part ∙ ap (λ n. vector n (packed t.v1 ++ packed t.v2)) (sym w.first) ∙ packed-back t.v1 (packed t.v2)

  second_back : vector N.inputs (v2_part N (record_bytes t)) ≡ t.v2
  second_back =
      ap (vector N.inputs) second-part ∙ ap (λ n. vector n (packed t.v2 ++ [])) (sym w.second) ∙ packed-back t.v2 []

  -- passes the checks 30 to 32 and, if its vectors differ, 85
  pub record_passes : (t.v1 ≡ t.v2 → ⊥) → checks (test_rules N (record_bytes t)) ≡ value tt
  record_passes differ =
      let rec : List ℕ = record_bytes t in
      let long : T (eqb (length rec) (record_length N)) =
      eq→eqb (length rec) (record_length N) (length-record N.inputs t w) in
      let one : T (spare_zero_of N.inputs (v1_part N rec)) =
      rw (first_part) (subst (λ (n : ℕ). T (spare_zero_of n (packed t.v1 ++ packed t.v2))) w.first (packed-spare t.v1 (packed t.v2))) in
      let two : T (spare_zero_of N.inputs (v2_part N rec)) =
      rw (second-part) (subst (λ (n : ℕ). T (spare_zero_of n (packed t.v2 ++ []))) w.second (packed-spare t.v2 [])) in
      unchanged_pairs.others N rec (λ u. differ (sym first_back ∙ u ∙ second_back))
      ∙ →checks (rules_before N rec) (long, (mark, (both (spare_zero_of N.inputs (v1_part N rec)) (spare_zero_of N.inputs (v2_part N rec)) one two, tt)))

  -- and is read as that test, in every class
  pub record_back : (c : Class) → test_of N c (record_bytes t) ≡ judged_pair c t
  unfolding test_of
  record_back c = ap₂ (λ (x y : List Bool). record { v1 = x; v2 = y; class = c }) first_back second_back
