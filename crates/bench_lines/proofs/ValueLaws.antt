-- A name's key: the value of its first eight bytes, and that of those after them.
use Rattle.model.proofs.Prelude.{ℕ, ◌≤◌, ◌<◌, ◌+◌, ◌-◌, ◌*◌, suc, ◌^◌, zero, ◌≡◌, ◌∙◌, ap, sym, List, [], ◌∷◌, length, get_or, drop, take}
use Rattle.model.proofs.Prelude.{drop_of_length-le, drop-drop, take_all, get_or-drop, arith}
use native.Mathlib.Nat.{pow-succ', one-le-pow}
use lib.Seq.{take-take}
use mir.Val.{Fits}
use mir.Syntax.{w8, w64}
use Rattle.model.specs.Base.{from_little_endian}
use Rattle.model.proofs.ListLaws.{take-bytes, drop-take}
use Rattle.bench_lines.specs.LineReading.{part}
use Rattle.bench_lines.specs.Keys.{key_low, key_high, key_of}
use Rattle.bench_lines.proofs.BytePartLaws.{drop-next, length_part, part_none}

-- ---- the value of a few bytes

bytes_below : (k : ℕ) (w : List ℕ) → length w ≤ k → ((i : ℕ) → get_or w i 0 < 256) → from_little_endian w < 256 ^ k
bytes_below k [] h b = omega (arith, one-le-pow k 256 (omega arith))
bytes_below zero (x ∷ xs) h b = absurd (omega arith)
bytes_below (suc k) (x ∷ xs) h b =
    rw (pow-succ' 256 k) (omega (arith, b 0, bytes_below k xs (omega arith) (λ i. b (suc i))))

part_bytes : (line : List ℕ) → ((i : ℕ) → Fits w8 (get_or line i 0)) → (n at i : ℕ)
    → get_or (take n (drop at line)) i 0 < 256
part_bytes line f n at i = take-bytes n (drop at line) (λ j. rw (get_or-drop at line j 0) (f (at + j)).fits) i

module _ (line : List ℕ) (from to : ℕ) where
  pub record ValueSoFar (at value : ℕ) : Type 0 where
    pub is : value ≡ from_little_endian (part at to line)
    pub low : from ≤ at
    pub high : at ≤ to

  pub value-start : from ≤ to → ValueSoFar to 0
  value-start h = record { is = sym (ap from_little_endian (part_none to line)); low = h; high = omega arith }

  module _ (at value : ℕ) (s : ValueSoFar at value) (h : from < at) (inside : to ≤ length line) where
    pub value-more : ValueSoFar (at - 1) (256 * value + get_or line (at - 1) 0)
    value-more =
        let k : to - (at - 1) ≡ suc (to - at) = omega (arith, s.high) in
        let j : at - 1 + 1 ≡ at = omega arith in
        let e : part (at - 1) to line ≡ get_or line (at - 1) 0 ∷ part at to line =
        ap (λ (n : ℕ). take n (drop (at - 1) line)) k ∙ ap (take (suc (to - at))) (drop-next (at - 1) line (omega (arith, s.high)))
        ∙ ap (λ (n : ℕ). get_or line (at - 1) 0 ∷ take (to - at) (drop n line)) j in
        record { is = omega (arith, s.is, ap from_little_endian e); low = omega arith; high = omega (arith, s.high) }

    value-small : ((i : ℕ) → Fits w8 (get_or line i 0)) → to ≤ from + 8 → value < 2 ^ 56
    value-small f k =
        rw s.is (bytes_below 7 (part at to line) (omega (arith, length_part at to line inside)) (part_bytes line f (to - at) at))

    pub value-times : ((i : ℕ) → Fits w8 (get_or line i 0)) → to ≤ from + 8 → Fits w64 (256 * value)
    value-times f k = record { fits = omega (arith, value-small f k) }

    pub value-plus : ((i : ℕ) → Fits w8 (get_or line i 0)) → to ≤ from + 8 → Fits w64 (256 * value + get_or line (at - 1) 0)
    value-plus f k = record { fits = omega (arith, value-small f k, (f (at - 1)).fits) }

  pub value-end : (at value : ℕ) → ValueSoFar at value → at ≤ from → value ≡ from_little_endian (part from to line)
  value-end at value s h =
      let z : at ≡ from = omega (arith, s.low) in
      s.is ∙ ap (λ (n : ℕ). from_little_endian (part n to line)) z

-- ---- a key from its two values

module _ (line : List ℕ) (from to : ℕ) (inside : to ≤ length line) where
  pub key_short : (low : ℕ) → to - from ≤ 8 → low ≡ from_little_endian (part from to line)
      → record { low = low; high = 0 } ≡ key_of (part from to line)
  key_short low h e =
      let n : length (part from to line) ≤ 8 = omega (arith, length_part from to line inside) in
      let a : low ≡ key_low (part from to line) = e ∙ ap from_little_endian (sym (take_all 8 (part from to line) n)) in
      let b : 0 ≡ key_high (part from to line) =
      ap from_little_endian (sym (drop_of_length-le (part from to line) {i = 8} n)) in
      λ k. record { low = a k; high = b k }

  pub key_long : (low high : ℕ) → 8 < to - from → low ≡ from_little_endian (part from (from + 8) line)
      → high ≡ from_little_endian (part (from + 8) to line)
      → record { low = low; high = high } ≡ key_of (part from to line)
  key_long low high h e f =
      let m : from + 8 - from ≡ 8 = omega arith in
      let k : to - from ≡ 8 + (to - (from + 8)) = omega arith in
      let a : take (from + 8 - from) (drop from line) ≡ take 8 (part from to line) =
      ap (λ (n : ℕ). take n (drop from line)) m ∙ sym (take-take 8 (to - from) (drop from line) (omega arith)) in
      let b : part (from + 8) to line ≡ drop 8 (part from to line) =
      ap (take (to - (from + 8))) (sym (drop-drop 8 from line)) ∙ sym (drop-take 8 (to - (from + 8)) (drop from line))
      ∙ ap (λ (n : ℕ). drop 8 (take n (drop from line))) (sym k) in
      let p : low ≡ key_low (part from to line) = e ∙ ap from_little_endian a in
      let q : high ≡ key_high (part from to line) = f ∙ ap from_little_endian b in
      λ z. record { low = p z; high = q z }
