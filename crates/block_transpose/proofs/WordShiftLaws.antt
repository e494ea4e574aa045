-- Bits of a word that is shifted, and of its lowest byte.
use Rattle.model.proofs.Prelude.{ℕ, ◌≤◌, ◌<◌, ◌+◌, ◌-◌, ◌*◌, suc, ◌^◌, ◌/◌, ◌%◌, ◌≡◌, ◌∙◌, ap, sym, false, eqb, div-eq_of_lt, lt_of_lt_of_le, arith}
use native.Mathlib.Nat.{mul_assoc}
use lib.Bits.{bit_and, and_mask, mask_lt, shifted_even}
use lib.Pow.{shr-shr, shl-shr, pow-add, pow_mono, mod-mod-pow}
use lib.Pow as pow
use Rattle.model.specs.Base.{bit}

-- what is cut off a word does not change the bits below
module _ (a : ℕ) {w s : ℕ} (h : s < w) where
  digit : a % 2 ^ w / 2 ^ s % 2 ≡ a / 2 ^ s % 2
  digit =
      let m : w ≡ suc (w - suc s) + s = omega arith in
      let o : suc (w - suc s) ≡ w - suc s + 1 = omega arith in
      ap (λ k. a % 2 ^ k / 2 ^ s % 2) m ∙ ap (λ x. x % 2) (pow.field a (suc (w - suc s)) s) ∙ ap (λ k. a / 2 ^ s % 2 ^ k % 2) o
      ∙ mod-mod-pow (a / 2 ^ s) (w - suc s) 1

  pub cut-bit : bit (a % 2 ^ w) s ≡ bit a s
  cut-bit = ap (λ x. eqb x 1) digit

-- a word shifted down
pub right-bit : (a k s : ℕ) → bit (a / 2 ^ k) s ≡ bit a (k + s)
right-bit a k s = ap (λ x. eqb (x % 2) 1) (shr-shr a k s)

-- a word shifted up: nothing stands below
module _ (a k s : ℕ) where
  pub left-bit : k + s < 64 → bit ((a * 2 ^ k) % 2 ^ 64) (k + s) ≡ bit a s
  left-bit h = cut-bit (a * 2 ^ k) h ∙ sym (right-bit (a * 2 ^ k) k s) ∙ ap (λ x. bit x s) (shl-shr a k)

  pub left-none : s < k → k ≤ 64 → bit ((a * 2 ^ k) % 2 ^ 64) s ≡ false
  left-none h l =
      let m : k ≡ suc (k - suc s) + s = omega arith in
      let low : s < 64 = omega arith in
      cut-bit (a * 2 ^ k) low ∙ ap (λ x. eqb (x % 2) 1) (ap (λ j. a * 2 ^ j / 2 ^ s) m ∙ part (suc (k - suc s))) ∙ ap (λ x. eqb x 1) (shifted_even a (k - suc s))
    where
      part : (j : ℕ) → a * 2 ^ (j + s) / 2 ^ s ≡ a * 2 ^ j
      part j = ap (λ x. x / 2 ^ s) (ap (λ x. a * x) (pow-add 2 j s) ∙ sym (mul_assoc a (2 ^ j) (2 ^ s))) ∙ shl-shr (a * 2 ^ j) s

-- the lowest byte
pub byte-bit : (a : ℕ) {s : ℕ} → s < 8 → bit (bit_and a 255) s ≡ bit a s
byte-bit a {s} h = ap (λ x. bit x s) (and_mask a 8) ∙ cut-bit a h

pub byte-none : (a s : ℕ) → 8 ≤ s → bit (bit_and a 255) s ≡ false
byte-none a s h = ap (λ x. eqb (x % 2) 1) (div-eq_of_lt (lt_of_lt_of_le (mask_lt a 8) (pow_mono h)))
