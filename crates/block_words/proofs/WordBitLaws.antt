-- Bits of words of any length: halves, `not`, all ones.
use Rattle.model.proofs.Prelude.{ℕ, ◌<◌, ◌+◌, ◌-◌, ◌*◌, suc, ◌^◌, zero, ◌/◌, ◌%◌, ◌≡◌, ◌∙◌, ap, refl, sym, true, not, eqb, not-suc-le-zero}
use Rattle.model.proofs.Prelude.{le_of_suc-le-suc, pow-suc, arith}
use lib.Pow.{pow_pos}
use Rattle.model.specs.Base.{bit}
use Rattle.record_bytes.proofs.BitLaws.{zero_bit, half-bit, half-below, first_bit}

not_digit : (x y : ℕ) → x % 2 + y % 2 ≡ 1 → eqb (x % 2) 1 ≡ not (eqb (y % 2) 1)
not_digit x y e = go (x % 2) (y % 2) e
  where
    go : (a b : ℕ) → a + b ≡ 1 → eqb a 1 ≡ not (eqb b 1)
    go zero zero e = absurd (omega arith)
    go zero (suc zero) e = refl
    go zero (suc (suc b)) e = absurd (omega arith)
    go (suc zero) zero e = refl
    go (suc zero) (suc b) e = absurd (omega arith)
    go (suc (suc a)) b e = absurd (omega arith)

-- the bits of `not` in a word of k bits
pub not_bits : (k a j : ℕ) → a < 2 ^ k → j < k → bit ((2 ^ k - 1) - a) j ≡ not (bit a j)
not_bits zero a j h l = absurd (not-suc-le-zero l)
not_bits (suc k) a zero h l =
    first_bit (2 ^ suc k - 1 - a) ∙ not_digit (2 ^ suc k - 1 - a) a (ends (2 ^ suc k) (2 ^ k) a (pow-suc 2 k) h) ∙ ap not (sym (first_bit a))
  where
    ends : (w v a : ℕ) → w ≡ v * 2 → a < w → (w - 1 - a) % 2 + a % 2 ≡ 1
    ends w v a e h = omega arith
not_bits (suc k) a (suc j) h l =
    half-bit (2 ^ suc k - 1 - a) j ∙ ap (λ x. bit x j) (halved (2 ^ suc k) (2 ^ k) a (pow-suc 2 k) h)
    ∙ not_bits k (a / 2) j (half-below k a h) (le_of_suc-le-suc l) ∙ ap not (sym (half-bit a j))
  where
    halved : (w v a : ℕ) → w ≡ v * 2 → a < w → (w - 1 - a) / 2 ≡ v - 1 - a / 2
    halved w v a e h = omega arith

pub not_bit : (a j : ℕ) → a < 2 ^ 64 → j < 64 → bit ((2 ^ 64 - 1) - a) j ≡ not (bit a j)
not_bit a j h l = not_bits 64 a j h l

-- a word of ones
pub ones-bits : (k j : ℕ) → j < k → bit (2 ^ k - 1) j ≡ true
ones-bits k j l = ap (λ x. bit x j) (none (2 ^ k)) ∙ not_bits k 0 j (pow_pos k) l ∙ ap not (zero_bit j)
  where
    none : (w : ℕ) → w - 1 ≡ w - 1 - 0
    none w = omega arith
