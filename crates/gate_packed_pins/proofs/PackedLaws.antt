-- Rules of the values packed into a byte, each proved by one test that the checker computes at every number of pins and every byte.
use Rattle.model.proofs.Prelude.{ℕ, ◌≤◌, ◌<◌, ◌-◌, suc, ◌^◌, zero, ◌/◌, ◌%◌, ◌≡◌, sym, subst, ⊎_elim, true, Bool, false, ◌&&◌, not, Bool·beq, get_or, T}
use Rattle.model.proofs.Prelude.{eqb, not-suc-le-zero, le_of_suc-le-suc, arith}
use native.Mathlib.Nat.{eq-or-lt_of_le}
use lib.Bits.{bit_and, bit_xor}
use Rattle.model.specs.Base.{all_of, any_of, bit}
use Rattle.model.specs.Detect.{odd, others}
use Rattle.model.proofs.BoolLaws.{and_left, and_right, beq→}
use Rattle.gate_packed_pins.specs.Packed.{bits_in, parity_of, open_set_of}

-- the test passes at each number below n
abbrev below : (ℕ → Bool) → ℕ → Bool
below f zero = true
below f (suc n) = f n && below f n

below_at : (f : ℕ → Bool) (n : ℕ) → T (below f n) → (k : ℕ) → k < n → T (f k)
below_at f zero t k h = absurd (not-suc-le-zero h)
below_at f (suc n) t k h =
    ⊎_elim (λ e. subst (λ m. T (f m)) (sym e) (and_left (f n) (below f n) t)) (λ l. below_at f n (and_right (f n) (below f n) t) k l)
    (eq-or-lt_of_le (le_of_suc-le-suc h))

-- the test passes at each number of pins up to 8 and each byte of so many
abbrev every_packed : (ℕ → ℕ → Bool) → Bool
every_packed f = below (λ n. below (f n) (2 ^ n)) 9

packed-at : (f : ℕ → ℕ → Bool) → T (every_packed f) → (n b : ℕ) → n ≤ 8 → b < 2 ^ n → T (f n b)
packed-at f t n b h l = below_at (f n) (2 ^ n) (below_at (λ m. below (f m) (2 ^ m)) 9 t n (omega arith)) b l

-- a byte's upper four bits folded onto the lower four: bit n of 0x6996 is the parity of n
pub folded_odd : (b : ℕ) → b < 256 → eqb (bit_and (0x6996 / 2 ^ (bit_xor b (b / 16) % 16)) 1) 1 ≡ parity_of b
unfolding bits_in parity_of
folded_odd b l = beq→ _ _ (below_at (λ c. Bool·beq (eqb (bit_and (0x6996 / 2 ^ (bit_xor c (c / 16) % 16)) 1) 1) (parity_of c)) 256 tt b l)

module _ (n b : ℕ) (h : n ≤ 8) (l : b < 2 ^ n) where
  pub all_ones : eqb b (2 ^ n - 1) ≡ all_of (λ v. v) (bits_in n b)
  unfolding bits_in
  all_ones = beq→ _ _ (packed-at (λ m c. Bool·beq (eqb c (2 ^ m - 1)) (all_of (λ v. v) (bits_in m c))) tt n b h l)

  pub some_one : not (eqb b 0) ≡ any_of (λ v. v) (bits_in n b)
  unfolding bits_in
  some_one = beq→ _ _ (packed-at (λ m c. Bool·beq (not (eqb c 0)) (any_of (λ v. v) (bits_in m c))) tt n b h l)

  pub odd-ones : parity_of b ≡ odd (bits_in n b)
  unfolding bits_in parity_of
  odd-ones = beq→ _ _ (packed-at (λ m c. Bool·beq (parity_of c) (odd (bits_in m c))) tt n b h l)

  -- the open pins where 0 is controlling, and where 1 is
  pub open_zeros : (p : ℕ) → p < n → bit (open_set_of (2 ^ n - 1) (2 ^ n - 1 - b)) p ≡ others (Bool·beq true) (bits_in n b) p
  unfolding bits_in open_set_of
  open_zeros p k =
      beq→ _ _
      (below_at (λ q. Bool·beq (bit (open_set_of (2 ^ n - 1) (2 ^ n - 1 - b)) q) (others (Bool·beq true) (bits_in n b) q)) n
      (packed-at (λ m c. below (λ q. Bool·beq (bit (open_set_of (2 ^ m - 1) (2 ^ m - 1 - c)) q) (others (Bool·beq true) (bits_in m c) q)) m) tt n b h l) p k)

  pub open_ones : (p : ℕ) → p < n → bit (open_set_of (2 ^ n - 1) b) p ≡ others (Bool·beq false) (bits_in n b) p
  unfolding bits_in open_set_of
  open_ones p k =
      beq→ _ _
      (below_at (λ q. Bool·beq (bit (open_set_of (2 ^ n - 1) b) q) (others (Bool·beq false) (bits_in n b) q)) n
      (packed-at (λ m c. below (λ q. Bool·beq (bit (open_set_of (2 ^ m - 1) c) q) (others (Bool·beq false) (bits_in m c) q)) m) tt n b h l) p k)

  -- the pins of which every other pin has a 1
  pub open_marked : (p : ℕ) → p < n → bit (open_set_of (2 ^ n - 1) (2 ^ n - 1 - b)) p ≡ others (λ v. v) (bits_in n b) p
  unfolding bits_in open_set_of
  open_marked p k =
      beq→ _ _
      (below_at (λ q. Bool·beq (bit (open_set_of (2 ^ n - 1) (2 ^ n - 1 - b)) q) (others (λ v. v) (bits_in n b) q)) n
      (packed-at (λ m c. below (λ q. Bool·beq (bit (open_set_of (2 ^ m - 1) (2 ^ m - 1 - c)) q) (others (λ v. v) (bits_in m c) q)) m) tt n b h l) p k)

  -- the other pins
  pub bit_not : (p : ℕ) → p < n → bit (2 ^ n - 1 - b) p ≡ not (bit b p)
  bit_not p k =
      beq→ _ _
      (below_at (λ q. Bool·beq (bit (2 ^ n - 1 - b) q) (not (bit b q))) n
      (packed-at (λ m c. below (λ q. Bool·beq (bit (2 ^ m - 1 - c) q) (not (bit c q))) m) tt n b h l) p k)

-- every pin is open
pub all-open : (n p : ℕ) → n ≤ 8 → p < n → bit (2 ^ n - 1) p ≡ true
all-open n p h k =
    beq→ _ _
    (below_at (λ q. Bool·beq (bit (2 ^ n - 1) q) true) n
    (below_at (λ m. below (λ q. Bool·beq (bit (2 ^ m - 1) q) true) m) 9 tt n (omega arith)) p k)

-- one pin
pub single : (b : ℕ) → b < 2 → not (eqb b 0) ≡ get_or (bits_in 1 b) 0 false
unfolding bits_in
single b l = beq→ _ _ (below_at (λ c. Bool·beq (not (eqb c 0)) (get_or (bits_in 1 c) 0 false)) 2 tt b l)

pub single-not : (b : ℕ) → b < 2 → eqb b 0 ≡ not (get_or (bits_in 1 b) 0 false)
unfolding bits_in
single-not b l = beq→ _ _ (below_at (λ c. Bool·beq (eqb c 0) (not (get_or (bits_in 1 c) 0 false))) 2 tt b l)
