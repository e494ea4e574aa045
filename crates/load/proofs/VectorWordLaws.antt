-- Vectors as numbers: setting an input moves the number by its bit.
use Rattle.model.proofs.Prelude.{ℕ, ◌<◌, ◌+◌, ◌-◌, ◌*◌, suc, ◌^◌, zero, ◌/◌, ◌%◌, ◌≡◌, ◌∙◌, ap, true, Bool, false, List, [], ◌∷◌, length, get_or, set}
use Rattle.model.proofs.Prelude.{not-suc-le-zero, le_of_suc-le-suc, arith}
use native.Mathlib.Nat.{mul_left_comm}
use lib.Bits.{bit_and, and_high}
use Rattle.gate_packed_pins.specs.Packed.{one_where_of, pack_bits}
use Rattle.gate_packed_pins.proofs.PackBitsLaws.{bits-digit}
use Rattle.load_vectors.proofs.DrawSteps.{pow_next}

-- an input set to another value
set-step : (x w w' a c p q : ℕ) → q ≡ 2 * p → w' + a * p ≡ w + c * p → x + 2 * w' + a * q ≡ x + 2 * w + c * q
set-step x w w' a c p q e h =
    let m : a * (2 * p) ≡ 2 * (a * p) = mul_left_comm a 2 p in
    let n : c * (2 * p) ≡ 2 * (c * p) = mul_left_comm c 2 p in
    let goal : x + 2 * w' + a * (2 * p) ≡ x + 2 * w + c * (2 * p) = omega arith in
    rw e goal

set_word : (v : List Bool) (j : ℕ) (b : Bool) → j < length v
    → pack_bits (set v j b) + one_where_of (get_or v j false) * 2 ^ j ≡ pack_bits v + one_where_of b * 2 ^ j
set_word [] j b h = absurd (not-suc-le-zero h)
set_word (x ∷ v) zero b h = omega arith
set_word (x ∷ v) (suc j) b h =
    set-step (one_where_of x) (pack_bits v) (pack_bits (set v j b)) (one_where_of (get_or v j false)) (one_where_of b) (2 ^ j) (2 ^ suc j) (omega arith)
    (set_word v j b (le_of_suc-le-suc h))

-- one bit of a number, by the mask of its place
pub mask_bit : (n j : ℕ) → bit_and n (2 ^ j) ≡ n / 2 ^ j % 2 * 2 ^ j
mask_bit n j =
    let i : 1 + j ≡ j + 1 = omega arith in
    let p : 2 ^ (1 + j) ≡ 2 * 2 ^ j = ap (λ k. 2 ^ k) i ∙ pow_next j in
    let m : 2 ^ j ≡ 2 ^ (1 + j) - 2 ^ j = omega arith in
    ap (bit_and n) m ∙ and_high n 1 j

module _ (v : List Bool) (j : ℕ) (inside : j < length v) (word : ℕ) (is : word ≡ pack_bits v) where
  -- the number with that input at 0
  pub lowered_is : (low : ℕ) → low ≡ word - word / 2 ^ j % 2 * 2 ^ j → low ≡ pack_bits (set v j false)
  lowered_is low e =
      let d : pack_bits v / 2 ^ j % 2 * 2 ^ j ≡ one_where_of (get_or v j false) * 2 ^ j = ap (λ x. x * 2 ^ j) (bits-digit v j) in
      let s : pack_bits (set v j false) + one_where_of (get_or v j false) * 2 ^ j ≡ pack_bits v + 0 * 2 ^ j = set_word v j false inside in
      let e' : low ≡ pack_bits v - pack_bits v / 2 ^ j % 2 * 2 ^ j = e ∙ ap (λ x. x - x / 2 ^ j % 2 * 2 ^ j) is in
      omega arith

  -- and with its bit more, at 1
  pub raised_is : (low : ℕ) → low ≡ word - word / 2 ^ j % 2 * 2 ^ j → low + 2 ^ j ≡ pack_bits (set v j true)
  raised_is low e =
      let l = lowered_is low e in
      let s : pack_bits (set v j false) + one_where_of (get_or v j false) * 2 ^ j ≡ pack_bits v + 0 * 2 ^ j = set_word v j false inside in
      let t : pack_bits (set v j true) + one_where_of (get_or v j false) * 2 ^ j ≡ pack_bits v + 1 * 2 ^ j = set_word v j true inside in
      omega arith
