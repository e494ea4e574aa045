-- The spare bits of a packed vector lie in one byte, and a mask finds them.
use Rattle.model.proofs.Prelude.{ℕ, ◌≤◌, ◌<◌, ◌+◌, ◌-◌, ◌*◌, suc, ◌^◌, zero, ◌/◌, ◌%◌, ◌≡◌, ◌∙◌, ap, refl, sym, true, Bool, ◌&&◌, not, Bool·beq, List}
use Rattle.model.proofs.Prelude.{ap₂, get_or, T, eqb, arith}
use lib.Bits.{bit_and}
use Rattle.model.proofs.BoolLaws.{beq→}
use Rattle.model.specs.Base.{all_of, numbers_from, bit}
use Rattle.model.specs.Read.{input_bit, vector_bytes_of, spare_zero_of}
use Rattle.model.proofs.ListLaws.{all_of_at, length-numbers_from, numbers_from-at}

-- the `m` bits of the byte `b` from bit `k` on are zero
clear : ℕ → ℕ → ℕ → Bool
clear b k m = all_of (λ j. not (bit b j)) (numbers_from k m)

in_byte : (bs : List ℕ) (n m : ℕ) → n % 8 + m ≤ 8 → all_of (λ j. not (input_bit bs j)) (numbers_from n m) ≡ clear (get_or bs (n / 8) 0) (n % 8) m
unfolding clear
in_byte bs n zero h = refl
in_byte bs n (suc zero) h = refl
in_byte bs n (suc (suc m)) h =
    let q : suc n / 8 ≡ n / 8 = omega arith in
    let r : suc n % 8 ≡ suc (n % 8) = omega arith in
    ap (λ (t : Bool). not (input_bit bs n) && t) (in_byte bs (suc n) (suc m) (omega arith) ∙ ap₂ (λ x k. clear (get_or bs x 0) k (suc m)) q r)

-- the mask of the bits from bit `k` on finds none set in the byte `b`
masked : ℕ → ℕ → Bool
masked b k = eqb (bit_and b ((255 * 2 ^ k) % 256)) 0

-- both ways of testing agree, at byte n / 8 and bit n % 8
agree : ℕ → Bool
agree n = Bool·beq (masked (n / 8) (n % 8)) (clear (n / 8) (n % 8) (8 - n % 8))

-- at every byte and every first spare bit, by computing
mask_clear : (b k : ℕ) → b < 256 → k < 8 → masked b k ≡ clear b k (8 - k)
unfolding agree masked clear
mask_clear b k hb hk =
    let n = b * 8 + k in
    let q : (b * 8 + k) / 8 ≡ b = omega arith in
    let r : (b * 8 + k) % 8 ≡ k = omega arith in
    let place : get_or (numbers_from 0 2048) (b * 8 + k) 0 ≡ b * 8 + k = omega (arith, numbers_from-at 2048 0 (b * 8 + k) (omega arith)) in
    let all : T (agree (get_or (numbers_from 0 2048) (b * 8 + k) 0)) = all_of_at agree (numbers_from 0 2048) 0 tt (b * 8 + k) (omega (arith, length-numbers_from 0 2048)) in
    beq→ (masked b k) (clear b k (8 - k)) (rw (place, q, r) at all)

-- A vector of whole bytes has no spare bit
pub spare-none : (bs : List ℕ) (n : ℕ) → n % 8 ≡ 0 → true ≡ spare_zero_of n bs
spare-none bs n z =
    let q : 8 * vector_bytes_of n - n ≡ 0 = omega arith in
    rw q refl

-- Else they are the bits of the byte where input `n` would be, from its bit on
pub spare-mask : (bs : List ℕ) (n : ℕ) → (n % 8 ≡ 0 → ⊥) → get_or bs (n / 8) 0 < 256
    → eqb (bit_and (get_or bs (n / 8) 0) ((255 * 2 ^ (n % 8)) % 256)) 0 ≡ spare_zero_of n bs
unfolding masked
spare-mask bs n h b =
    let q : 8 * vector_bytes_of n - n ≡ 8 - n % 8 = omega arith in
    mask_clear (get_or bs (n / 8) 0) (n % 8) b (omega arith) ∙ sym (in_byte bs n (8 - n % 8) (omega arith)) ∙ rw q refl
