-- A vector as it is drawn: a step of the state, its top bit at an input's place, and one input more as the loop counts.
use Rattle.model.proofs.Prelude.{ℕ, ◌≤◌, ◌<◌, ◌+◌, ◌-◌, ◌*◌, suc, ◌^◌, zero, ◌/◌, ◌%◌, ◌≡◌, ◌∙◌, ap, refl, sym, true, Bool, false, ◌∷◌, eqb, mod-lt}
use Rattle.model.proofs.Prelude.{add-one, arith, rules}
use native.Mathlib.Nat.{mul_comm, mul_assoc, add-mul}
use lib.Bits.{bit_and, and_mask, mask_lt}
use lib.Pow.{shl_exact, pow_mono}
use Rattle.gate_packed_pins.specs.Packed.{one_where_of, pack_bits}
use Rattle.load_vectors.specs.Drawing.{next_state_of, state_after, top_bit, drawn}
use Rattle.load_vectors.specs.DrawnVector.{DrawnTrue}

-- the next power of 2
pub pow_next : (j : ℕ) → 2 ^ (j + 1) ≡ 2 * 2 ^ j
pow_next j = let e : 2 ^ suc j ≡ 2 * 2 ^ j = omega arith in rw (add-one j) e

pub step_is : (s : ℕ) → (1664525 * s + 1013904223) % 4294967296 ≡ next_state_of s
unfolding next_state_of
step_is s = refl

-- a digit, and the value that it stands for
one_of : (x : ℕ) → x < 2 → x ≡ one_where_of (eqb x 1)
one_of zero h = refl
one_of (suc zero) h = refl
one_of (suc (suc x)) h = absurd (omega arith)

-- the top bit, shifted to an input's place
pub top-is : (s j : ℕ) → j < 64 → (bit_and (s / 2 ^ 31) 1 * 2 ^ j) % 2 ^ 64 ≡ one_where_of (top_bit s) * 2 ^ j
top-is s j l =
    let d : ℕ = s / 2 ^ 31 % 2 in
    let small : s / 2 ^ 31 % 2 < 2 = mod-lt (s / 2 ^ 31) (omega arith) in
    ap (λ k. (k * 2 ^ j) % 2 ^ 64) (and_mask (s / 2 ^ 31) 1) ∙ shl_exact {a = d} 1 j 64 small (omega arith) ∙ ap (λ k. k * 2 ^ j) (one_of d small)

pub lowest-fits : (x : ℕ) → bit_and x 1 < 2 ^ 64
lowest-fits x = omega (arith, mask_lt x 1)

-- one input more
drawn-next : (n s : ℕ) → 0 < n → drawn n s ≡ top_bit (next_state_of s) ∷ drawn (n - 1) (next_state_of s)
unfolding drawn
drawn-next zero s h = absurd (omega arith)
drawn-next (suc n) s h = let e : suc n - 1 ≡ n = omega arith in rw e refl

after_next : (n s : ℕ) → 0 < n → state_after n s ≡ state_after (n - 1) (next_state_of s)
unfolding state_after
after_next zero s h = absurd (omega arith)
after_next (suc n) s h = let e : suc n - 1 ≡ n = omega arith in rw e refl

word_next : (n s : ℕ) → 0 < n
    → pack_bits (drawn n s) ≡ one_where_of (top_bit (next_state_of s)) + 2 * pack_bits (drawn (n - 1) (next_state_of s))
word_next n s h = ap pack_bits (drawn-next n s h)

-- what is drawn, and what is left to draw, give the whole
pub record Drawing (inputs state vector last input : ℕ) : Type 0 where
  pub most : input ≤ inputs
  pub small : vector < 2 ^ input
  pub whole : vector + pack_bits (drawn (inputs - input) last) * 2 ^ input ≡ pack_bits (drawn inputs state)
  pub steps : state_after (inputs - input) last ≡ state_after inputs state

pub draw_first : (inputs state : ℕ) → Drawing inputs state 0 state 0
draw_first inputs state =
    let n : inputs - 0 ≡ inputs = omega arith in
    record {
      most = omega arith;
      small = omega arith;
      whole = let w : pack_bits (drawn (inputs - 0) state) ≡ pack_bits (drawn inputs state) = ap (λ k. pack_bits (drawn k state)) n in omega arith;
      steps = ap (λ k. state_after k state) n;
    }

bit-most : (b : Bool) (p : ℕ) → one_where_of b * p ≤ p
bit-most true p = omega arith
bit-most false p = omega arith

carry : (a w p : ℕ) → (a + 2 * w) * p ≡ a * p + w * (2 * p)
carry a w p = add-mul a (2 * w) p ∙ ap (λ k. a * p + k) (ap (λ k. k * p) (mul_comm 2 w) ∙ mul_assoc w 2 p)

-- a bit more at the next place
module _ (inputs state vector last input : ℕ) (d : Drawing inputs state vector last input) (b : Bool) (top : ℕ) (is : top ≡ one_where_of b * 2 ^ input) where
  grown : vector + top < 2 ^ (input + 1)
  grown =
      let m = bit-most b (2 ^ input) in
      let s = d.small in
      let p : 2 ^ (input + 1) ≡ 2 * 2 ^ input = pow_next input in
      omega arith

  pub draw_fits : inputs ≤ 64 → input < inputs → vector + top < 2 ^ 64
  draw_fits few more =
      let g = grown in
      let p : 2 ^ (input + 1) ≤ 2 ^ 64 = pow_mono {i = input + 1} {j = 64} (omega arith) in
      omega arith

-- the top bit of the next state
module _ (inputs state vector last input : ℕ) (d : Drawing inputs state vector last input) (more : input < inputs) (next : ℕ) (stepped : next ≡ next_state_of last)
    (top : ℕ) (is : top ≡ one_where_of (top_bit next) * 2 ^ input) where
  pub draw_next : Drawing inputs state (vector + top) next (input + 1)
  draw_next =
      let left : 0 < inputs - input = omega arith in
      let n : inputs - input - 1 ≡ inputs - (input + 1) = omega arith in
      let rest : ℕ = pack_bits (drawn (inputs - (input + 1)) next) in
      let one : ℕ = one_where_of (top_bit next) in
      let w : pack_bits (drawn (inputs - input) last) ≡ one + 2 * rest =
      word_next (inputs - input) last left
      ∙ ap (λ k. one_where_of (top_bit (next_state_of last)) + 2 * pack_bits (drawn k (next_state_of last))) n
      ∙ ap (λ k. one_where_of (top_bit k) + 2 * pack_bits (drawn (inputs - (input + 1)) k)) (sym stepped) in
      let p : 2 ^ (input + 1) ≡ 2 * 2 ^ input = pow_next input in
      let c : (one + 2 * rest) * 2 ^ input ≡ one * 2 ^ input + rest * (2 * 2 ^ input) = carry one rest (2 ^ input) in
      let t : pack_bits (drawn (inputs - input) last) * 2 ^ input ≡ one * 2 ^ input + rest * 2 ^ (input + 1) =
      ap (λ k. k * 2 ^ input) w ∙ c ∙ ap (λ k. one * 2 ^ input + rest * k) (sym p) in
      let h = d.whole in
      record {
        most = omega arith;
        small = grown inputs state vector last input d (top_bit next) top is;
        whole = omega arith;
        steps =
            ap (λ k. state_after k next) (sym n) ∙ ap (λ k. state_after (inputs - input - 1) k) stepped ∙ sym (after_next (inputs - input) last left)
            ∙ d.steps;
      }

none_left : (s : ℕ) → pack_bits (drawn 0 s) ≡ 0
unfolding drawn
none_left s = refl

pub no_steps : (s : ℕ) → state_after 0 s ≡ s
unfolding state_after
no_steps s = refl

module _ (inputs state vector last input : ℕ) (d : Drawing inputs state vector last input) (h : inputs ≤ input) where
  pub draw_last : DrawnTrue (record { vector = vector; state = last }) inputs state
  draw_last =
      let n : inputs - input ≡ 0 = omega arith in
      let e : pack_bits (drawn (inputs - input) last) ≡ 0 = ap (λ k. pack_bits (drawn k last)) n ∙ none_left last in
      let w = d.whole in
      let z : pack_bits (drawn (inputs - input) last) * 2 ^ input ≡ 0 * 2 ^ input = ap (λ k. k * 2 ^ input) e in
      record { vector_is = omega arith; state_is = sym (no_steps last) ∙ ap (λ k. state_after k last) (sym n) ∙ d.steps }

pub ruleset draw-cases = (draw_first, draw_fits, draw_next, draw_last, rules)
