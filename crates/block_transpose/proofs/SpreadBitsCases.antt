-- The bits of a byte, one in each byte of a word: the lowest bits by a test that the checker computes at every byte, the others by the last mask.
use Rattle.model.proofs.Prelude.{ℕ, ◌≤◌, ◌<◌, ◌+◌, ◌*◌, ◌^◌, ◌/◌, ◌≡◌, ◌∙◌, ap, subst, Bool, false, ◌&&◌, not, Bool·beq, and-false, get_or, leb, T}
use Rattle.model.proofs.Prelude.{arith}
use lib.Bits.{bit_and, and_le_r}
use Rattle.model.specs.Base.{all_of, numbers_from, bit}
use Rattle.model.proofs.BoolLaws.{beq→, le-true}
use Rattle.model.proofs.ListLaws.{all_of_at, length-numbers_from, numbers_from-at}
use Rattle.record_bytes.proofs.BitLaws.{and_bit}
use Rattle.block_transpose.specs.Vectors.{BitsSpread}

-- the sum that has bit i of a byte as the top bit of its byte i, and what the code makes of it
abbrev summed : ℕ → ℕ
summed byte = bit_and (byte * 0x0101010101010101) 0x8040201008040201 + 0x00406070787C7E7F

abbrev spread_out : ℕ → ℕ
spread_out byte = bit_and (summed byte / 2 ^ 7) 0x0101010101010101

pub sum_fits : (byte : ℕ) → summed byte < 2 ^ 64
sum_fits byte = omega (arith, and_le_r (byte * 0x0101010101010101) 0x8040201008040201)

-- a test that passes at the numbers below n passes at each of them
each_below : (f : ℕ → Bool) (n : ℕ) → T (all_of f (numbers_from 0 n)) → (k : ℕ) → k < n → T (f k)
each_below f n t k h =
    let place : get_or (numbers_from 0 n) k 0 ≡ k = omega (arith, numbers_from-at n 0 k h) in
    subst (λ (i : ℕ). T (f i)) place (all_of_at f (numbers_from 0 n) 0 t k (omega (arith, length-numbers_from 0 n)))

lowest : (byte : ℕ) → byte < 256 → (i : ℕ) → i < 8 → bit (spread_out byte) (8 * i) ≡ bit byte i
lowest byte h i l =
    beq→ (bit (spread_out byte) (8 * i)) (bit byte i)
    (each_below (λ j. Bool·beq (bit (spread_out byte) (8 * j)) (bit byte j)) 8
    (each_below (λ b. all_of (λ j. Bool·beq (bit (spread_out b) (8 * j)) (bit b j)) (numbers_from 0 8)) 256 tt byte h) i l)

-- the last mask has the lowest bit of each byte alone
masked : (i t : ℕ) → i < 8 → 1 ≤ t → t < 8 → bit 0x0101010101010101 (8 * i + t) ≡ false
masked i t h l m =
    let f : ℕ → ℕ → Bool = λ j s. Bool·beq (bit 0x0101010101010101 (8 * j + s)) (not (leb 1 s)) in
    let all : T (f i t) = each_below (f i) 8 (each_below (λ j. all_of (f j) (numbers_from 0 8)) 8 tt i h) t m in
    beq→ _ _ all ∙ ap not (le-true 1 t l)

pub spread-bits-is : (byte : ℕ) → byte < 256 → BitsSpread byte (spread_out byte)
spread-bits-is byte h = record {
  lowest = lowest byte h;
  others = λ i t l m n.
      and_bit (summed byte / 2 ^ 7) 0x0101010101010101 (8 * i + t) ∙ ap (λ b. bit (summed byte / 2 ^ 7) (8 * i + t) && b) (masked i t l m n)
      ∙ and-false (bit (summed byte / 2 ^ 7) (8 * i + t));
  small = omega (arith, and_le_r (summed byte / 2 ^ 7) 0x0101010101010101);
}
