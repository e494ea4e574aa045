-- Values packed into a number: bit j of the number is value j, and it has no bit past the last.
use Rattle.model.proofs.Prelude.{ℕ, ◌<◌, ◌+◌, ◌*◌, suc, ◌^◌, zero, ◌/◌, ◌%◌, ◌≡◌, ◌∙◌, ap, refl, sym, true, Bool, false, List, [], ◌∷◌, length, get_or}
use Rattle.model.proofs.Prelude.{eqb, arith}
use lib.Pow.{shr-shr, shr_le}
use Rattle.model.specs.Base.{bit}
use Rattle.gate_packed_pins.specs.Packed.{one_where_of, pack_bits}

one-small : (b : Bool) → one_where_of b < 2
one-small true = omega arith
one-small false = omega arith

one-where : (b : Bool) → eqb (one_where_of b) 1 ≡ b
one-where true = refl
one-where false = refl

-- the digit of a bit
pub bits-digit : (vs : List Bool) (j : ℕ) → pack_bits vs / 2 ^ j % 2 ≡ one_where_of (get_or vs j false)
bits-digit [] j = omega (arith, shr_le 0 j)
bits-digit (v ∷ vs) zero = let s = one-small v in omega arith
bits-digit (v ∷ vs) (suc j) =
    let s = one-small v in
    let w = one_where_of v + 2 * pack_bits vs in
    let n : suc j ≡ 1 + j = omega arith in
    let q : (one_where_of v + 2 * pack_bits vs) / 2 ^ 1 ≡ pack_bits vs = omega arith in
    let e : w / 2 ^ suc j ≡ pack_bits vs / 2 ^ j = ap (λ k. w / 2 ^ k) n ∙ sym (shr-shr w 1 j) ∙ ap (λ x. x / 2 ^ j) q in
    ap (λ x. x % 2) e ∙ bits-digit vs j

-- Bit j of the number is value j, 0 past the last
pub bits-at : (vs : List Bool) (j : ℕ) → bit (pack_bits vs) j ≡ get_or vs j false
bits-at vs j = ap (λ x. eqb x 1) (bits-digit vs j) ∙ one-where (get_or vs j false)

-- the number has no bit past the last value
pub bits_small : (vs : List Bool) → pack_bits vs < 2 ^ length vs
bits_small [] = omega arith
bits_small (v ∷ vs) =
    let s = one-small v in
    let p : 2 ^ suc (length vs) ≡ 2 * 2 ^ length vs = omega arith in
    let w = bits_small vs in
    let goal : one_where_of v + 2 * pack_bits vs < 2 ^ suc (length vs) = omega arith in
    goal
