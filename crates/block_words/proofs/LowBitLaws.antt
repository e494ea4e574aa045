-- The lowest set bit of a word: its place, and the word without it.
use Rattle.model.proofs.Prelude.{ℕ, ◌<◌, ◌-◌, suc, ◌^◌, zero, ◌/◌, ◌%◌, ◌≡◌, ◌∙◌, ap, refl, sym, ap₂, true, false, ◌&&◌, not, and-true, eqb, eqb→eq}
use Rattle.model.proofs.Prelude.{eqb_refl, arith}
use mathlib.Core.Bool.{and_self}
use native.Mathlib.Nat.{zero-lt-suc}
use lib.Bits.{bit_and, and_le_r}
use lib.Count.{count_trailing_zeros, under}
use lib.Dec.{eqb-suc-suc, eqb-suc-zero}
use Rattle.model.specs.Base.{bit}
use Rattle.model.proofs.BoolLaws.{T→true, not→false}
use Rattle.record_bytes.proofs.BitLaws.{and_bit}
use Rattle.record_bytes.proofs.BitLaws.{half-bit, half-below, first_bit}

none_below_one : (q : ℕ) → 0 < q → q < 1 → ⊥
none_below_one q h k = omega arith

half_pos : (n : ℕ) → 0 < n → n % 2 ≡ 0 → 0 < n / 2
half_pos n h e = omega arith

pub low_below : (d n : ℕ) → 0 < n → n < 2 ^ d → count_trailing_zeros d n < d
unfolding count_trailing_zeros
low_below zero n h k = absurd (none_below_one n h k)
low_below (suc d) n h k = go (n % 2) refl (λ (e : n % 2 ≡ 0). low_below d (n / 2) (half_pos n h e) (half-below d n k))
  where
    go : (r : ℕ) → n % 2 ≡ r → (n % 2 ≡ 0 → count_trailing_zeros d (n / 2) < d) → under r (count_trailing_zeros d (n / 2)) < suc d
    go zero e ih = up (count_trailing_zeros d (n / 2)) d (ih e)
      where
        up : (a b : ℕ) → a < b → suc a < suc b
        up a b l = omega arith
    go (suc r) e ih = zero-lt-suc d

is_one : (m r : ℕ) → m % 2 ≡ suc r → m % 2 ≡ 1
is_one m r e = omega arith

pub low-set : (d n : ℕ) → 0 < n → n < 2 ^ d → bit n (count_trailing_zeros d n) ≡ true
unfolding count_trailing_zeros
low-set zero n h k = absurd (none_below_one n h k)
low-set (suc d) n h k = go (n % 2) refl (λ (e : n % 2 ≡ 0). low-set d (n / 2) (half_pos n h e) (half-below d n k))
  where
    go : (r : ℕ) → n % 2 ≡ r → (n % 2 ≡ 0 → bit (n / 2) (count_trailing_zeros d (n / 2)) ≡ true) → bit n (under r (count_trailing_zeros d (n / 2))) ≡ true
    go zero e ih = half-bit n (count_trailing_zeros d (n / 2)) ∙ ih e
    go (suc r) e ih = first_bit n ∙ ap (λ x. eqb x 1) (is_one n r e)

both-low : (d n t : ℕ) → 0 < n → n < 2 ^ d → (bit n t && bit (n - 1) t) ≡ (bit n t && not (eqb t (count_trailing_zeros d n)))
unfolding count_trailing_zeros
both-low zero n t h k = absurd (none_below_one n h k)
both-low (suc d) n zero h k = go (n % 2) refl
  where
    even-less : (m : ℕ) → 0 < m → m % 2 ≡ 0 → eqb (m % 2) 1 ≡ false
    even-less m h e = ap (λ x. eqb x 1) e

    before : (m r : ℕ) → m % 2 ≡ suc r → (m - 1) % 2 ≡ 0
    before m r e = omega arith

    go : (r : ℕ) → n % 2 ≡ r → (bit n 0 && bit (n - 1) 0) ≡ (bit n 0 && not (eqb 0 (under r (count_trailing_zeros d (n / 2)))))
    go zero e =
        ap (λ b. b && bit (n - 1) 0) (first_bit n ∙ even-less n h e)
        ∙ sym (ap (λ b. b && not (eqb 0 (suc (count_trailing_zeros d (n / 2))))) (first_bit n ∙ even-less n h e))
    go (suc r) e = ap (λ b. bit n 0 && b) (first_bit (n - 1) ∙ ap (λ x. eqb x 1) (before n r e))
both-low (suc d) n (suc t) h k = go (n % 2) refl (λ (e : n % 2 ≡ 0). both-low d (n / 2) t (half_pos n h e) (half-below d n k))
  where
    less : (m : ℕ) → 0 < m → m % 2 ≡ 0 → (m - 1) / 2 ≡ m / 2 - 1
    less m h e = omega arith

    same : (m r : ℕ) → m % 2 ≡ suc r → (m - 1) / 2 ≡ m / 2
    same m r e = omega arith

    go : (r : ℕ) → n % 2 ≡ r → (n % 2 ≡ 0 → (bit (n / 2) t && bit (n / 2 - 1) t) ≡ (bit (n / 2) t && not (eqb t (count_trailing_zeros d (n / 2)))))
        → (bit n (suc t) && bit (n - 1) (suc t)) ≡ (bit n (suc t) && not (eqb (suc t) (under r (count_trailing_zeros d (n / 2)))))
    go zero e ih =
        ap₂ (λ a b. a && b) (half-bit n t) (half-bit (n - 1) t ∙ ap (λ x. bit x t) (less n h e)) ∙ ih e
        ∙ ap₂ (λ a b. a && not b) (sym (half-bit n t)) (sym (eqb-suc-suc t (count_trailing_zeros d (n / 2))))
    go (suc r) e ih =
        ap (λ b. bit n (suc t) && b) (half-bit (n - 1) t ∙ ap (λ x. bit x t) (same n r e) ∙ sym (half-bit n t))
        ∙ and_self (bit n (suc t)) ∙ sym (and-true (bit n (suc t))) ∙ ap (λ b. bit n (suc t) && not b) (sym (eqb-suc-zero t))

-- `and` with the number before takes the lowest set bit away
pub without-low : (d n t : ℕ) → 0 < n → n < 2 ^ d → bit (bit_and n (n - 1)) t ≡ (bit n t && not (eqb t (count_trailing_zeros d n)))
without-low d n t h k = and_bit n (n - 1) t ∙ both-low d n t h k

-- a word of 64 bits that is not 0
module _ {left : ℕ} (small : left < 2 ^ 64) (ne : left ≡ 0 → ⊥) where
  some_left : 0 < left
  some_left = omega (arith, ne)

  pub low-in : count_trailing_zeros 64 left < 64
  low-in = low_below 64 left some_left small

  pub low-there : bit left (count_trailing_zeros 64 left) ≡ true
  low-there = low-set 64 left some_left small

  pub less-left : bit_and left (left - 1) < left
  less-left = omega (arith, and_le_r left (left - 1), some_left)

  -- without its lowest bit: the others stay
  pub others-stay : (t : ℕ) → (t ≡ count_trailing_zeros 64 left → ⊥) → bit (bit_and left (left - 1)) t ≡ bit left t
  others-stay t d =
      without-low 64 left t some_left small
      ∙ ap (λ b. bit left t && not b) (not→false (eqb t (count_trailing_zeros 64 left)) (λ u. d (eqb→eq t (count_trailing_zeros 64 left) u))) ∙ and-true (bit left t)

  pub low-gone : bit (bit_and left (left - 1)) (count_trailing_zeros 64 left) ≡ false
  low-gone =
      without-low 64 left (count_trailing_zeros 64 left) some_left small
      ∙ ap₂ (λ a b. a && not b) low-there (T→true (eqb (count_trailing_zeros 64 left) (count_trailing_zeros 64 left)) (eqb_refl (count_trailing_zeros 64 left)))
