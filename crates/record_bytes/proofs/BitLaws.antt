-- Bits of words: of 0 and of a shifted 1, of `and`, `or` and `xor`, and of bytes read low byte first.
use Rattle.model.proofs.Prelude.{ℕ, ◌≤◌, ◌<◌, ◌+◌, ◌-◌, ◌*◌, suc, ◌^◌, zero, ◌/◌, ◌%◌, ◌≡◌, ◌∙◌, ap, refl, sym, ap₂, ⊎_elim, true, Bool, false, ◌&&◌}
use Rattle.model.proofs.Prelude.{not, ◌||◌, Bool·beq, List, [], ◌∷◌, length, get_or, eqb, not-suc-le-zero, div-eq_of_lt, mod-lt, arith}
use lib.Bits.{bit_and, bit_or, bit_xor, and_mask, and_shr, or_shr, xor_shr, and_mod, or_mod, xor_mod}
use lib.Pow.{shr-shr, shl_exact, pow_pos}
use Rattle.model.specs.Base.{bit, from_little_endian}
use Rattle.model.specs.Read.{input_bit}
use Rattle.model.proofs.BoolLaws.{le_or_lt}

pub zero_bit : (j : ℕ) → bit 0 j ≡ false
zero_bit j = rw (div-eq_of_lt {n = 0} {m = 2 ^ j} (pow_pos j)) refl

-- a 1 shifted to the place of a bit, as the code makes it
pub one_shifted : (j : ℕ) → j < 64 → (1 * 2 ^ j) % 2 ^ 64 ≡ 2 ^ j
one_shifted j h = let e : 1 * 2 ^ j ≡ 2 ^ j = omega arith in shl_exact {a = 1} 1 j 64 (omega arith) (omega arith) ∙ e

-- Bits of `and`, `or` and `xor`
pub below_two : (x : ℕ) → x % 2 < 2
below_two x = mod-lt x (omega arith)

-- a digit of a word, as the code makes it
pub word-digit : (word i : ℕ) → (bit_and (word / 2 ^ i) 1 < 2) × (eqb (bit_and (word / 2 ^ i) 1) 1 ≡ bit word i)
word-digit word i = (rw (and_mask (word / 2 ^ i) 1) (below_two (word / 2 ^ i)), rw (and_mask (word / 2 ^ i) 1) refl)

pub and_digit : (x y : ℕ) → x < 2 → y < 2 → eqb (bit_and x y) 1 ≡ (eqb x 1 && eqb y 1)
and_digit zero zero h l = refl
and_digit zero (suc zero) h l = refl
and_digit zero (suc (suc y)) h l = absurd (omega arith)
and_digit (suc zero) zero h l = refl
and_digit (suc zero) (suc zero) h l = refl
and_digit (suc zero) (suc (suc y)) h l = absurd (omega arith)
and_digit (suc (suc x)) y h l = absurd (omega arith)

or_digit : (x y : ℕ) → x < 2 → y < 2 → eqb (bit_or x y) 1 ≡ (eqb x 1 || eqb y 1)
or_digit zero zero h l = refl
or_digit zero (suc zero) h l = refl
or_digit zero (suc (suc y)) h l = absurd (omega arith)
or_digit (suc zero) zero h l = refl
or_digit (suc zero) (suc zero) h l = refl
or_digit (suc zero) (suc (suc y)) h l = absurd (omega arith)
or_digit (suc (suc x)) y h l = absurd (omega arith)

xor_digit : (x y : ℕ) → x < 2 → y < 2 → eqb (bit_xor x y) 1 ≡ not (Bool·beq (eqb x 1) (eqb y 1))
xor_digit zero zero h l = refl
xor_digit zero (suc zero) h l = refl
xor_digit zero (suc (suc y)) h l = absurd (omega arith)
xor_digit (suc zero) zero h l = refl
xor_digit (suc zero) (suc zero) h l = refl
xor_digit (suc zero) (suc (suc y)) h l = absurd (omega arith)
xor_digit (suc (suc x)) y h l = absurd (omega arith)

module _ (a b p : ℕ) where
  pub and_bit : bit (bit_and a b) p ≡ (bit a p && bit b p)
  and_bit =
      ap (λ x. eqb (x % 2) 1) (and_shr a b p) ∙ ap (λ x. eqb x 1) (and_mod (a / 2 ^ p) (b / 2 ^ p) 1)
      ∙ and_digit (a / 2 ^ p % 2) (b / 2 ^ p % 2) (below_two (a / 2 ^ p)) (below_two (b / 2 ^ p))

  pub or_bit : bit (bit_or a b) p ≡ (bit a p || bit b p)
  or_bit =
      ap (λ x. eqb (x % 2) 1) (or_shr a b p) ∙ ap (λ x. eqb x 1) (or_mod (a / 2 ^ p) (b / 2 ^ p) 1)
      ∙ or_digit (a / 2 ^ p % 2) (b / 2 ^ p % 2) (below_two (a / 2 ^ p)) (below_two (b / 2 ^ p))

  pub xor_bit : bit (bit_xor a b) p ≡ not (Bool·beq (bit a p) (bit b p))
  xor_bit =
      ap (λ x. eqb (x % 2) 1) (xor_shr a b p) ∙ ap (λ x. eqb x 1) (xor_mod (a / 2 ^ p) (b / 2 ^ p) 1)
      ∙ xor_digit (a / 2 ^ p % 2) (b / 2 ^ p % 2) (below_two (a / 2 ^ p)) (below_two (b / 2 ^ p))

-- what moved to 1, and what moved from 1
module _ (a b p : ℕ) where
  pub rise-bit : bit (bit_and (bit_xor a b) b) p ≡ (not (bit a p) && bit b p)
  rise-bit = and_bit (bit_xor a b) b p ∙ ap (λ t. t && bit b p) (xor_bit a b p) ∙ rise (bit a p) (bit b p)
    where
      rise : (x y : Bool) → (not (Bool·beq x y) && y) ≡ (not x && y)
      rise true true = refl
      rise true false = refl
      rise false true = refl
      rise false false = refl

  pub fall-bit : bit (bit_and (bit_xor a b) a) p ≡ (bit a p && not (bit b p))
  fall-bit = and_bit (bit_xor a b) a p ∙ ap (λ t. t && bit a p) (xor_bit a b p) ∙ fall (bit a p) (bit b p)
    where
      fall : (x y : Bool) → (not (Bool·beq x y) && x) ≡ (x && not y)
      fall true true = refl
      fall true false = refl
      fall false true = refl
      fall false false = refl

-- a bit of the lowest byte
low_byte : (b f j : ℕ) → j < 8 → (b + 256 * f) / 2 ^ j % 2 ≡ b / 2 ^ j % 2
low_byte b f zero h = omega arith
low_byte b f (suc zero) h = omega arith
low_byte b f (suc (suc zero)) h = omega arith
low_byte b f (suc (suc (suc zero))) h = omega arith
low_byte b f (suc (suc (suc (suc zero)))) h = omega arith
low_byte b f (suc (suc (suc (suc (suc zero))))) h = omega arith
low_byte b f (suc (suc (suc (suc (suc (suc zero)))))) h = omega arith
low_byte b f (suc (suc (suc (suc (suc (suc (suc zero))))))) h = omega arith
low_byte b f (suc (suc (suc (suc (suc (suc (suc (suc j)))))))) h = absurd (past j h)
  where
    past : (j : ℕ) → suc (suc (suc (suc (suc (suc (suc (suc j))))))) < 8 → ⊥
    past j h = omega arith

-- a bit of the other bytes
high-bytes : (b f j : ℕ) → b < 256 → (b + 256 * f) / 2 ^ (8 + j) ≡ f / 2 ^ j
high-bytes b f j h =
    let q : (b + 256 * f) / 256 ≡ f = omega arith in
    sym (shr-shr (b + 256 * f) 8 j) ∙ ap (λ x. x / 2 ^ j) q

-- the bits of a number that is read from bytes, low byte first, are those of the packed vector
pub word-bit : (bs : List ℕ) → ((i : ℕ) → get_or bs i 0 < 256) → (j : ℕ) → j / 8 < length bs → bit (from_little_endian bs) j ≡ input_bit bs j
word-bit [] s j h = absurd (not-suc-le-zero h)
word-bit (b ∷ bs) s j h =
    ⊎_elim
    (λ (l : suc j ≤ 8).
    let d : j / 8 ≡ 0 = omega arith in
    let m : j % 8 ≡ j = omega arith in
    ap (λ x. eqb x 1) (low_byte b (from_little_endian bs) j l)
    ∙ ap₂ (λ x y. eqb (get_or (b ∷ bs) x 0 / 2 ^ y % 2) 1) (sym d) (sym m))
    (λ (l : 8 < suc j).
    let i : j ≡ 8 + (j - 8) = omega arith in
    let d : suc ((j - 8) / 8) ≡ j / 8 = omega arith in
    let m : (j - 8) % 8 ≡ j % 8 = omega arith in
    let s₀ : b < 256 = s 0 in
    let w : bit (from_little_endian (b ∷ bs)) (8 + (j - 8)) ≡ bit (from_little_endian bs) (j - 8) =
    ap (λ x. eqb (x % 2) 1) (high-bytes b (from_little_endian bs) (j - 8) s₀) in
    ap (λ x. bit (from_little_endian (b ∷ bs)) x) i ∙ w ∙ word-bit bs (λ k. s (suc k)) (j - 8) (omega arith)
    ∙ ap₂ (λ x y. eqb (get_or (b ∷ bs) x 0 / 2 ^ y % 2) 1) d m)
    (le_or_lt (suc j) 8)

-- a digit from its test
digit-same : (x y : ℕ) → x < 2 → y < 2 → eqb x 1 ≡ eqb y 1 → x ≡ y
digit-same zero zero h l e = refl
digit-same zero (suc zero) h l e = absurd (mathlib.Core.Bool.false≢true e)
digit-same zero (suc (suc y)) h l e = absurd (omega arith)
digit-same (suc zero) zero h l e = absurd (mathlib.Core.Bool.true≢false e)
digit-same (suc zero) (suc zero) h l e = refl
digit-same (suc zero) (suc (suc y)) h l e = absurd (omega arith)
digit-same (suc (suc x)) y h l e = absurd (omega arith)

-- a higher bit is that of the half, the lowest that of the remainder
pub half-bit : (a j : ℕ) → bit a (suc j) ≡ bit (a / 2) j
half-bit a j = ap (λ x. eqb (x % 2) 1) (ap (λ k. a / 2 ^ k) s ∙ sym (shr-shr a 1 j))
  where
    s : suc j ≡ 1 + j
    s = omega arith

pub first_bit : (a : ℕ) → bit a 0 ≡ eqb (a % 2) 1
first_bit a = ap (λ x. eqb (x % 2) 1) (one a)
  where
    one : (a : ℕ) → a / 2 ^ 0 ≡ a
    one a = omega arith

pub half-below : (k a : ℕ) → a < 2 ^ suc k → a / 2 < 2 ^ k
half-below k a h = go (2 ^ suc k) (2 ^ k) (native.Mathlib.Nat.pow-suc 2 k) h
  where
    go : (w v : ℕ) → w ≡ v * 2 → a < w → a / 2 < v
    go w v e h = omega arith

-- numbers of `n` bits are equal when their bits are
pub bits-same : (n a b : ℕ) → a < 2 ^ n → b < 2 ^ n → ((i : ℕ) → i < n → bit a i ≡ bit b i) → a ≡ b
bits-same zero a b h l e = omega arith
bits-same (suc n) a b h l e =
    let high : a / 2 ≡ b / 2 =
    bits-same n (a / 2) (b / 2) (half-below n a h) (half-below n b l) (λ i m. sym (half-bit a i) ∙ e (suc i) (omega arith) ∙ half-bit b i)
    in
    let low : a % 2 ≡ b % 2 = digit-same (a % 2) (b % 2) (below_two a) (below_two b) (sym (first_bit a) ∙ e 0 (omega arith) ∙ first_bit b) in
    omega arith
