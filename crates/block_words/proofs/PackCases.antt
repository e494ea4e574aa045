-- The active pins of a record as a byte, the last pin first.
use Rattle.model.proofs.Prelude.{ℕ, ◌≤◌, ◌<◌, ◌+◌, ◌-◌, ◌*◌, suc, ◌^◌, zero, ◌/◌, ◌%◌, ◌≡◌, ◌∙◌, ap, refl, sym, ap₂, true, Bool, false}
use Rattle.model.proofs.Prelude.{List, [], ◌∷◌}
use Rattle.model.proofs.Prelude.{get_or, eqb, add-zero, mod-lt, pow-suc, lt_of_lt_of_le, arith, rules}
use lib.Bits.{bit_and, and_mask}
use lib.Pow.{pow_mono}
use mir.Val.{Fits}
use mir.Syntax.{w32}
use Rattle.model.specs.Base.{bit, numbers_from}
use Rattle.gate_packed_pins.specs.Packed.{one_where_of, pack_bits}
use Rattle.block_words.specs.Words.{bits_at, words_at, first_words}

one-eqb : (d : ℕ) → d < 2 → d ≡ one_where_of (eqb d 1) + 2 * 0
one-eqb zero h = refl
one-eqb (suc zero) h = refl
one-eqb (suc (suc d)) h = absurd (past d h)
  where
    past : (d : ℕ) → suc (suc d) < 2 → ⊥
    past d h = omega arith

pub bit-number : (word place : ℕ) → bit_and (word / 2 ^ place) 1 ≡ pack_bits (bits_at (word ∷ []) place)
bit-number word place = and_mask (word / 2 ^ place) 1 ∙ one-eqb (word / 2 ^ place % 2) (mod-lt (word / 2 ^ place) (omega arith))

pub bit-small : (word place : ℕ) → bit_and (word / 2 ^ place) 1 < 2
bit-small word place = rw (and_mask (word / 2 ^ place) 1) (mod-lt (word / 2 ^ place) (omega arith))

digit-small : (w place d : ℕ) → d ≡ pack_bits (bits_at (w ∷ []) place) → d < 2
digit-small w place d e = rw e (one (bit w place))
  where
    one : (b : Bool) → one_where_of b + 2 * 0 < 2
    one true = omega arith
    one false = omega arith

-- two pins
pub second_fits : (rows : List ℕ) (place : ℕ) {e : ℕ} → e ≡ pack_bits (bits_at (get_or rows 1 0 ∷ []) place) → Fits w32 (2 * e)
second_fits rows place {e} b = record { fits = omega (arith, digit-small (get_or rows 1 0) place e b) }

module _ (rows : List ℕ) (place : ℕ) {pins d e : ℕ} (two : pins ≡ 2) (a : d ≡ pack_bits (bits_at (get_or rows 0 0 ∷ []) place))
    (b : e ≡ pack_bits (bits_at (get_or rows 1 0 ∷ []) place)) where
  pub two-packed : d + 2 * e ≡ pack_bits (bits_at (first_words rows pins) place)
  two-packed = sum d e (one_where_of (bit (get_or rows 0 0) place)) (one_where_of (bit (get_or rows 1 0) place)) a b ∙ ap (λ n. pack_bits (bits_at (first_words rows n) place)) (sym two)
    where
      sum : (d e x y : ℕ) → d ≡ x + 2 * 0 → e ≡ y + 2 * 0 → d + 2 * e ≡ x + 2 * (y + 2 * 0)
      sum d e x y p q = omega arith

  pub two-sum : Fits w32 (d + 2 * e)
  two-sum = record { fits = omega (arith, digit-small (get_or rows 0 0) place d a, digit-small (get_or rows 1 0) place e b) }

  pub two-small : d + 2 * e < 256
  two-small = omega (arith, digit-small (get_or rows 0 0) place d a, digit-small (get_or rows 1 0) place e b)

pub ruleset two-pin-cases = (second_fits, two-packed, two-sum, two-small, rules)

pub record Packing (rows : List ℕ) (pins place byte k : ℕ) : Type 0 where
  pub within : k ≤ pins
  pub small : byte < 2 ^ (pins - k)
  pub packed : byte ≡ pack_bits (bits_at (words_at rows (numbers_from k (pins - k))) place)

module _ (rows : List ℕ) (pins place : ℕ) where
  pub pack_start : Packing rows pins place 0 pins
  pack_start =
      let z : pins - pins ≡ 0 = omega arith in
      record { within = omega arith; small = rw z (omega arith); packed = rw z refl }

  module _ {byte k : ℕ} (x : Packing rows pins place byte k) where
    pub pack_few : pins ≤ 8 → 0 < k → byte < 128
    pack_few few l = let m : pins - k ≤ 7 = omega arith in lt_of_lt_of_le x.small (pow_mono m)

    pub digit-few : (d : ℕ) → d ≡ pack_bits (bits_at (get_or rows (k - 1) 0 ∷ []) place) → d < 2
    digit-few d e = digit-small (get_or rows (k - 1) 0) place d e

    pub pack_step : 0 < k → (d : ℕ) → d ≡ pack_bits (bits_at (get_or rows (k - 1) 0 ∷ []) place) → Packing rows pins place (2 * byte + d) (k - 1)
    pack_step l d e =
        let n : pins - (k - 1) ≡ suc (pins - k) = omega (arith, x.within) in
        let s : suc (k - 1) ≡ k = omega arith in
        let f : d < 2 = digit-few d e in
        let o : d ≡ one_where_of (bit (get_or rows (k - 1) 0) place) = e ∙ add-zero (one_where_of (bit (get_or rows (k - 1) 0) place)) in
        record {
          within = omega (arith, x.within);
          small = rw n (double (pins - k) byte d x.small f);
          packed =
              sum byte d (one_where_of (bit (get_or rows (k - 1) 0) place)) (pack_bits (bits_at (words_at rows (numbers_from k (pins - k))) place)) x.packed o
              ∙ ap (λ m. one_where_of (bit (get_or rows (k - 1) 0) place) + 2 * pack_bits (bits_at (words_at rows (numbers_from m (pins - k))) place)) (sym s)
              ∙ ap (λ m. pack_bits (bits_at (words_at rows (numbers_from (k - 1) m)) place)) (sym n);
        }
      where
        double : (n a b : ℕ) → a < 2 ^ n → b < 2 → 2 * a + b < 2 ^ suc n
        double n a b q r = rw pow-suc (omega arith)

        sum : (a b o p : ℕ) → a ≡ p → b ≡ o → 2 * a + b ≡ o + 2 * p
        sum a b o p e q = omega arith

    pub pack_end : pins ≤ 8 → k ≤ 0 → (byte ≡ pack_bits (bits_at (first_words rows pins) place)) × (byte < 256)
    pack_end few z =
        let n : pins - k ≡ pins = omega arith in
        let o : k ≡ 0 = omega arith in
        let m : pins - k ≤ 8 = omega arith in (
          x.packed ∙ ap₂ (λ a b. pack_bits (bits_at (words_at rows (numbers_from a b)) place)) o n,
          lt_of_lt_of_le x.small (pow_mono m),
        )
