-- Eight inputs of eight records, the last record first: each record pushes those after it up by a bit.
use Rattle.model.proofs.Prelude.{ℕ, ◌≤◌, ◌<◌, ◌+◌, ◌-◌, ◌*◌, suc, ◌^◌, zero, ◌/◌, ◌%◌, ◌≡◌, ◌∙◌, ap, ap₂, false, ◌||◌, or-false, List, get_or, eqb}
use Rattle.model.proofs.Prelude.{arith}
use native.Mathlib.Nat.{zero-div}
use lib.Bits.{bit_and, bit_or, mask_lt}
use Rattle.model.specs.Base.{bit}
use Rattle.record_bytes.proofs.BitLaws.{or_bit}
use Rattle.block_transpose.specs.Vectors.{BitsSpread, Gathered}
use Rattle.block_transpose.proofs.WordShiftLaws.{right-bit, left-bit, left-none, byte-bit}

pub byte_fits : (a : ℕ) → bit_and a 255 < 256
byte_fits a = mask_lt a 8

-- the records from t on stand in the lowest bits of each byte
pub record Gathering (vectors : List ℕ) (first shift word t : ℕ) : Type 0 where
  pub within : t ≤ 8
  pub bits : (i u : ℕ) → i < 8 → t + u < 8 → bit word (8 * i + u) ≡ bit (get_or vectors (first + (t + u)) 0) (shift + i)
  pub free : (i u : ℕ) → i < 8 → u < 8 → 8 ≤ t + u → bit word (8 * i + u) ≡ false

module _ {vectors : List ℕ} {first shift : ℕ} where
  pub gather_start : Gathering vectors first shift 0 8
  gather_start = record {
    within = omega arith;
    bits = λ i u h l. absurd (past u l);
    free = λ i u h l m. ap (λ x. eqb (x % 2) 1) (zero-div (2 ^ (8 * i + u)));
  }
    where
      past : (u : ℕ) → 8 + u < 8 → ⊥
      past u l = omega arith

  module _ {word t : ℕ} (x : Gathering vectors first shift word t) where
    pub gather_end : t ≤ 0 → Gathered vectors first shift word
    gather_end z = record {
      bits = λ i u h l.
          let e : t + u ≡ u = omega arith in
          x.bits i u h (omega arith) ∙ ap (λ k. bit (get_or vectors (first + k) 0) (shift + i)) e;
    }

    module _ (some : 0 < t) {c : ℕ} (y : BitsSpread (bit_and (get_or vectors (first + (t - 1)) 0 / 2 ^ shift) 255) c) where
      pushed : ℕ
      pushed = (word * 2 ^ 1) % 2 ^ 64

      -- the lowest bit of each byte is free for the record
      lowest-free : (i : ℕ) → i < 8 → bit pushed (8 * i) ≡ false
      unfolding pushed
      lowest-free zero h = left-none word 1 0 (omega arith) (omega arith)
      lowest-free (suc i) h =
          let m : 8 * suc i ≡ 1 + (8 * i + 7) = omega arith in
          ap (bit pushed) m ∙ left-bit word 1 (8 * i + 7) (omega arith) ∙ x.free i 7 (omega arith) (omega arith) (omega arith)

      lowest-is : (i : ℕ) → i < 8 → bit (bit_or pushed c) (8 * i) ≡ bit (get_or vectors (first + (t - 1)) 0) (shift + i)
      lowest-is i h =
          let vector = get_or vectors (first + (t - 1)) 0 in
          or_bit pushed c (8 * i) ∙ ap₂ ◌||◌ (lowest-free i h) (y.lowest i h) ∙ byte-bit (vector / 2 ^ shift) h ∙ right-bit vector shift i

      others-are : (i u : ℕ) → i < 8 → suc u < 8 → bit (bit_or pushed c) (8 * i + suc u) ≡ bit word (8 * i + u)
      unfolding pushed
      others-are i u h l =
          let m : 8 * i + suc u ≡ 1 + (8 * i + u) = omega arith in
          or_bit pushed c (8 * i + suc u)
          ∙ ap₂ ◌||◌ (ap (bit pushed) m ∙ left-bit word 1 (8 * i + u) (omega arith)) (y.others i (suc u) h (omega arith) l)
          ∙ or-false (bit word (8 * i + u))

      bits-then : (i u : ℕ) → i < 8 → t - 1 + u < 8 → bit (bit_or pushed c) (8 * i + u) ≡ bit (get_or vectors (first + (t - 1 + u)) 0) (shift + i)
      bits-then i zero h l =
          let m : 8 * i + 0 ≡ 8 * i = omega arith in
          let n : t - 1 ≡ t - 1 + 0 = omega arith in
          ap (bit (bit_or pushed c)) m ∙ lowest-is i h ∙ ap (λ k. bit (get_or vectors (first + k) 0) (shift + i)) n
      bits-then i (suc u) h l =
          let n : t + u ≡ t - 1 + suc u = omega arith in
          others-are i u h (omega arith) ∙ x.bits i u h (omega arith) ∙ ap (λ k. bit (get_or vectors (first + k) 0) (shift + i)) n

      free-then : (i u : ℕ) → i < 8 → u < 8 → 8 ≤ t - 1 + u → bit (bit_or pushed c) (8 * i + u) ≡ false
      free-then i zero h l m = absurd (past t some x.within m)
        where
          past : (t : ℕ) → 0 < t → t ≤ 8 → 8 ≤ t - 1 + 0 → ⊥
          past t s w m = omega arith
      free-then i (suc u) h l m = others-are i u h l ∙ x.free i u h (omega arith) (omega arith)

      pub gather_step : Gathering vectors first shift (bit_or ((word * 2 ^ 1) % 2 ^ 64) c) (t - 1)
      unfolding pushed
      gather_step = record { within = omega (arith, x.within); bits = bits-then; free = free-then }
