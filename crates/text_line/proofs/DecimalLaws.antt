-- Decimal digits: those that `io::decimal` writes are `decimal_text`, and there are 1 to 20 of them.
use Rattle.model.proofs.Prelude.{ℕ, ◌≤◌, ◌<◌, ◌+◌, ◌-◌, ◌*◌, suc, ◌^◌, zero, ◌/◌, ◌%◌, ◌≡◌, ◌∙◌, ap, refl, sym, ⊎_elim, List, [], ◌∷◌, ◌++◌, length}
use Rattle.model.proofs.Prelude.{take, length-append, mod-lt, pow-suc, mod-eq_of_lt, arith, lt-ltb, le-ltb}
use native.Mathlib.Nat.{pow-le-pow_right}
use Rattle.model.proofs.BoolLaws.{le_or_lt}
use Rattle.io.specs.Digits.{last_digits, hex_digit_ascii, IsDigitCount}
use Rattle.text_line.specs.Decimal.{digits_of, decimal_text}

-- a decimal digit in ASCII
glyph_is : (d : ℕ) → d < 10 → hex_digit_ascii d ≡ 48 + d
glyph_is d h = rw (lt-ltb d 10 h) refl

one-digit : (most n : ℕ) → n < 10 → digits_of (suc most) n ≡ (48 + n) ∷ []
unfolding digits_of
one-digit most n h = rw (lt-ltb n 10 h, digits_of) refl

more-digits : (most n : ℕ) → 10 ≤ n → digits_of (suc most) n ≡ digits_of most (n / 10) ++ ((48 + n % 10) ∷ [])
unfolding digits_of
more-digits most n h = rw (le-ltb n 10 h, digits_of) refl

-- the fewest digits that hold a number are its digits with no zero in front
digits_are : (k most n : ℕ) → IsDigitCount 10 1 n k → k ≤ most → last_digits 10 k n ≡ digits_of most n
digits_are zero most n f h = absurd (omega (arith, f.0))
digits_are (suc zero) zero n f h = absurd (omega (arith, h))
digits_are (suc zero) (suc most) n f h =
    let small : n < 10 = f.1 in
    ap (λ (d : ℕ). hex_digit_ascii d ∷ []) (mod-eq_of_lt small) ∙ ap (λ (d : ℕ). d ∷ []) (glyph_is n small) ∙ sym (one-digit most n small)
digits_are (suc (suc k)) zero n f h = absurd (omega (arith, h))
digits_are (suc (suc k)) (suc most) n f h =
    let p : 10 ^ suc (suc k) ≡ 10 ^ suc k * 10 = pow-suc 10 (suc k) in
    let q : 10 ^ suc k ≡ 10 ^ k * 10 = pow-suc 10 k in
    let e : suc (suc k) - 1 ≡ suc k = omega arith in
    let low : 10 ^ suc k ≤ n = rw e at (f.2 (omega arith)) in
    let some : 1 ≤ 10 ^ k = pow-le-pow_right {n = 10} (omega arith) {i = 0} {j = k} (omega arith) in
    let j : suc k - 1 ≡ k = omega arith in
    let least : 10 ^ k ≤ n / 10 = omega arith in
    let fewer : IsDigitCount 10 1 (n / 10) (suc k) = (omega arith, omega (arith, f.1), λ b. rw j least) in
    ap (λ (l : List ℕ). l ++ (hex_digit_ascii (n % 10) ∷ [])) (digits_are (suc k) most (n / 10) fewer (omega arith))
    ∙ ap (λ (d : ℕ). digits_of most (n / 10) ++ (d ∷ [])) (glyph_is (n % 10) (mod-lt n (omega arith)))
    ∙ sym (more-digits most n (omega arith))

-- a number of 64 bits has at most 20 digits
few-places : (k n : ℕ) → IsDigitCount 10 1 n k → n < 18446744073709551616 → k ≤ 20
few-places k n f h = ⊎_elim (λ a. a) (λ a. absurd (too_many a)) (le_or_lt k 20)
  where
    too_many : 20 < k → ⊥
    too_many a =
        let power : 100000000000000000000 ≤ 10 ^ (k - 1) = pow-le-pow_right {n = 10} (omega arith) {i = 20} {j = k - 1} (omega arith) in
        omega (arith, f.2 (omega arith))

-- what `io::decimal` puts at the start of its 20 bytes
pub decimal_is : (k n : ℕ) (bytes : List ℕ) → IsDigitCount 10 1 n k → n < 18446744073709551616 → take k bytes ≡ last_digits 10 k n → take k bytes ≡ decimal_text n
unfolding decimal_text
decimal_is k n bytes f h e = e ∙ digits_are k 20 n f (few-places k n f h)

few-digits : (most n : ℕ) → length (digits_of most n) ≤ most
unfolding digits_of
few-digits zero n = omega arith
few-digits (suc most) n =
    ⊎_elim (λ h. rw (more-digits most n h) (simp length-append (omega (arith, few-digits most (n / 10)))))
    (λ h. rw (one-digit most n h) (omega arith)) (le_or_lt 10 n)

pub at-most-20 : (n : ℕ) → length (decimal_text n) ≤ 20
unfolding decimal_text
at-most-20 n = few-digits 20 n
