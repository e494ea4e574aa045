-- Words with a bit for each record: those of the first records, and bits flipped by a mask.
use Rattle.model.proofs.Prelude.{ℕ, ◌≤◌, ◌<◌, ◌-◌, ◌*◌, ◌^◌, ◌%◌, ◌≡◌, ◌∙◌, ap, refl, sym, subst, ap₂, ⊎_elim, true, Bool, ◌&&◌, not, and-true, List}
use Rattle.model.proofs.Prelude.{length, get_or, set, length-set, get_or-set_same, get_or-set_other, arith}
use mathlib.Core.Bool.{and-not_self}
use lib.Bits.{bit_and, bit_xor}
use lib.Count.{count_trailing_zeros}
use lib.Pow.{pow_pos}
use Rattle.model.specs.Base.{bit}
use Rattle.model.proofs.BoolLaws.{equal_or_not}
use Rattle.record_bytes.proofs.BitLaws.{xor_bit, zero_bit, one_shifted}
use Rattle.block_words.specs.Words.{unequal}
use Rattle.block_words.specs.Masks.{Flipped}
use Rattle.block_words.proofs.WordBitLaws.{ones-bits}
use Rattle.block_words.proofs.TruthLaws.{unequal-none}
use Rattle.block_words.proofs.LowBitLaws.{low-in, low-there, less-left, others-stay, low-gone}

pub shifted_some : (t : ℕ) → t < 64 → 1 ≤ (1 * 2 ^ t) % 2 ^ 64
shifted_some t h = rw (one_shifted t h) (pow_pos t)

pub first-all : (n : ℕ) → n ≡ 64 → (s : ℕ) → s < n → bit (2 ^ 64 - 1) s ≡ true
first-all n e s h = ones-bits 64 s (omega arith)

pub first-word : (n : ℕ) → n ≤ 64 → (n ≡ 64 → ⊥) → (s : ℕ) → s < n → bit ((1 * 2 ^ n) % 2 ^ 64 - 1) s ≡ true
first-word n h d s l = ap (λ w. bit (w - 1) s) (one_shifted n (omega (arith, d))) ∙ ones-bits n s l

pub first_fits : (n : ℕ) → n ≤ 64 → (n ≡ 64 → ⊥) → n < 64
first_fits n h d = omega (arith, d)

-- Flipping: the inputs of `changed` that are not left are flipped
pub record Flipping (words₀ words : List ℕ) (changed mask left : ℕ) : Type 0 where
  pub small : left < 2 ^ 64
  pub same_length_of : length words ≡ length words₀
  pub within : (j : ℕ) → bit left j ≡ true → bit changed j ≡ true
  pub bits : (j : ℕ) → j < 64 → (s : ℕ) → bit (get_or words j 0) s ≡ unequal (bit (get_or words₀ j 0) s) ((bit changed j && not (bit left j)) && bit mask s)

module _ (words₀ : List ℕ) (changed mask : ℕ) where
  flipped : ℕ → ℕ → ℕ → Bool
  flipped left j s = unequal (bit (get_or words₀ j 0) s) ((bit changed j && not (bit left j)) && bit mask s)

  pub flip_start : changed < 2 ^ 64 → Flipping words₀ words₀ changed mask changed
  flip_start s = record {
    small = s;
    same_length_of = refl;
    within = λ j e. e;
    bits = λ j h t.
        sym (unequal-none (bit (get_or words₀ j 0) t)) ∙ ap (λ b. unequal (bit (get_or words₀ j 0) t) (b && bit mask t)) (sym (and-not_self (bit changed j)));
  }

  module _ {words : List ℕ} {left : ℕ} (x : Flipping words₀ words changed mask left) (ne : left ≡ 0 → ⊥) where
    pub input-in : count_trailing_zeros 64 left < 64
    input-in = low-in x.small ne

    pub rest-less : bit_and left (left - 1) < left
    rest-less = less-left x.small ne

    was : bit changed (count_trailing_zeros 64 left) ≡ true
    was = x.within (count_trailing_zeros 64 left) (low-there x.small ne)

    -- the lowest input left
    turned : (s : ℕ) → unequal (bit (get_or words (count_trailing_zeros 64 left) 0) s) (bit mask s) ≡ flipped (bit_and left (left - 1)) (count_trailing_zeros 64 left) s
    unfolding flipped
    turned s =
        let z = count_trailing_zeros 64 left in
        let there = low-there x.small ne in
        ap (λ b. unequal b (bit mask s))
        (x.bits z input-in s ∙ ap₂ (λ a b. unequal (bit (get_or words₀ z 0) s) ((a && not b) && bit mask s)) was there ∙ unequal-none (bit (get_or words₀ z 0) s))
        ∙ sym (ap₂ (λ a b. unequal (bit (get_or words₀ z 0) s) ((a && not b) && bit mask s)) was (low-gone x.small ne))

    pub flip_step : length words₀ ≡ 64
        → Flipping words₀ (set words (count_trailing_zeros 64 left) (bit_xor (get_or words (count_trailing_zeros 64 left) 0) mask)) changed mask (bit_and left (left - 1))
    unfolding flipped
    flip_step r =
        let z = count_trailing_zeros 64 left in
        let v = bit_xor (get_or words z 0) mask in
        let l : z < length words = omega (arith, input-in, x.same_length_of) in
        record {
          small = omega (arith, rest-less, x.small);
          same_length_of = length-set words z v ∙ x.same_length_of;
          within = λ j e.
              ⊎_elim (λ (q : j ≡ z). subst (λ i. bit changed i ≡ true) (sym q) was)
              (λ (d : j ≡ z → ⊥). x.within j (sym (others-stay x.small ne j d) ∙ e)) (equal_or_not j z);
          bits = λ j h s.
              ⊎_elim
              (λ (q : j ≡ z).
              subst (λ i. bit (get_or (set words z v) i 0) s ≡ flipped (bit_and left (left - 1)) i s) (sym q)
              (ap (λ y. bit y s) (get_or-set_same words z v 0 l) ∙ xor_bit (get_or words z 0) mask s ∙ turned s))
              (λ (d : j ≡ z → ⊥).
              ap (λ y. bit y s) (get_or-set_other words z j v 0 d) ∙ x.bits j h s
              ∙ ap (λ b. unequal (bit (get_or words₀ j 0) s) ((bit changed j && not b) && bit mask s)) (sym (others-stay x.small ne j d)))
              (equal_or_not j z);
        }

  pub flip_end : {words : List ℕ} {left : ℕ} → left ≡ 0 → Flipping words₀ words changed mask left → Flipped words₀ words changed mask
  flip_end {words} {left} e x = record {
    same_length_of = x.same_length_of;
    bits = λ j h s.
        x.bits j h s
        ∙ ap (λ b. unequal (bit (get_or words₀ j 0) s) (b && bit mask s))
        (ap (λ w. bit changed j && not (bit w j)) e ∙ ap (λ b. bit changed j && not b) (zero_bit j) ∙ and-true (bit changed j));
  }
