-- The pins of a gate from three packed bytes: their values under V1 and V2, and which are steady.
use Rattle.model.proofs.Prelude.{ℕ, ◌≤◌, ◌<◌, ◌-◌, ◌*◌, suc, ◌^◌, zero, ◌/◌, ◌%◌, ◌≡◌, ◌∙◌, ap, refl, sym, ap₂, inl, inr, ◌⊎◌, true, Bool, false}
use Rattle.model.proofs.Prelude.{◌&&◌, not, ◌||◌, Bool·beq, and-true, or-false, and_assoc, and_comm, List, [], ◌∷◌, map, get_or, eqb, not-suc-le-zero}
use Rattle.model.proofs.Prelude.{le_of_suc-le-suc, arith}
use lib.Bits.{bit_and, bit_or, bit_xor, and_shr, and_mod}
use Rattle.model.specs.Base.{all_of, any_of, bit}
use Rattle.model.specs.Netlist.{and, or, xor}
use Rattle.model.specs.Detect.{robust, Evaluation, no_evaluation, gate_steady, others, differs, robust_sides, is_open}
use Rattle.model.specs.Read.{kind_of}
use Rattle.gate_packed_pins.specs.Packed.{bits_in, one_where_of, open_set_of}
use Rattle.gate_logic.specs.States.{pins_in, steady_by_of}
use Rattle.record_bytes.proofs.BitLaws.{below_two, half-bit, first_bit, and_digit, and_bit, or_bit, xor_bit}
use Rattle.gate_packed_pins.proofs.PackedLaws.{all_ones, some_one, open_zeros, open_ones, open_marked, bit_not}
use Rattle.gate_packed_pins.proofs.KindCases.{all_of_map, others-map}

-- each byte's bits
pub firsts : (n a b s : ℕ) → map (λ e. e.under_v1) (pins_in n a b s) ≡ bits_in n a
unfolding bits_in pins_in
firsts zero a b s = refl
firsts (suc n) a b s = ap (λ vs. eqb (a % 2) 1 ∷ vs) (firsts n (a / 2) (b / 2) (s / 2))

pub lasts : (n a b s : ℕ) → map (λ e. e.under_v2) (pins_in n a b s) ≡ bits_in n b
unfolding bits_in pins_in
lasts zero a b s = refl
lasts (suc n) a b s = ap (λ vs. eqb (b % 2) 1 ∷ vs) (lasts n (a / 2) (b / 2) (s / 2))

calms : (n a b s : ℕ) → map (λ e. e.steady) (pins_in n a b s) ≡ bits_in n s
unfolding bits_in pins_in
calms zero a b s = refl
calms (suc n) a b s = ap (λ vs. eqb (s % 2) 1 ∷ vs) (calms n (a / 2) (b / 2) (s / 2))

-- one pin
pub pin_at : (n a b s p : ℕ) → p < n → get_or (pins_in n a b s) p no_evaluation ≡ record { under_v1 = bit a p; under_v2 = bit b p; steady = bit s p }
unfolding pins_in
pin_at zero a b s p h = absurd (not-suc-le-zero h)
pin_at (suc n) a b s zero h = λ i. record { under_v1 = sym (first_bit a) i; under_v2 = sym (first_bit b) i; steady = sym (first_bit s) i }
pin_at (suc n) a b s (suc p) h =
    pin_at n (a / 2) (b / 2) (s / 2) p (le_of_suc-le-suc h)
    ∙ (λ i. record { under_v1 = sym (half-bit a p) i; under_v2 = sym (half-bit b p) i; steady = sym (half-bit s p) i })

-- Two bits as one
pub either : (x y : Bool) (m n : ℕ) → m ≡ one_where_of x → n ≡ one_where_of y → not (eqb (bit_or m n) 0) ≡ (x || y)
either true true m n e f = rw (e, f) refl
either true false m n e f = rw (e, f) refl
either false true m n e f = rw (e, f) refl
either false false m n e f = rw (e, f) refl

-- A set of pins, one of which is steady
any_both : List Bool → List Bool → Bool
any_both [] ys = false
any_both (x ∷ xs) [] = false
any_both (x ∷ xs) (y ∷ ys) = (x && y) || any_both xs ys

any_and : (n s c : ℕ) → any_of (λ v. v) (bits_in n (bit_and s c)) ≡ any_both (bits_in n s) (bits_in n c)
unfolding bits_in any_both
any_and zero s c = refl
any_and (suc n) s c =
    ap₂ (λ x y. x || y)
    (ap (λ x. eqb x 1) (and_mod s c 1) ∙ and_digit (s % 2) (c % 2) (below_two s) (below_two c))
    (ap (λ x. any_of (λ v. v) (bits_in n x)) (and_shr s c 1) ∙ any_and n (s / 2) (c / 2))

-- the complement of a set of pins
bits-not : (n b : ℕ) → b < 2 ^ n → bits_in n (2 ^ n - 1 - b) ≡ map not (bits_in n b)
unfolding bits_in
bits-not zero b h = refl
bits-not (suc n) b h =
    let e : 2 ^ suc n ≡ 2 * 2 ^ n = omega arith in
    let d : (2 ^ suc n - 1 - b) / 2 ≡ 2 ^ n - 1 - b / 2 = omega arith in
    let m : (2 ^ suc n - 1 - b) % 2 ≡ 1 - b % 2 = omega arith in
    ap₂ (λ (v : Bool) (vs : List Bool). v ∷ vs) (ap (λ x. eqb x 1) m ∙ flip_digit (b % 2) (below_two b))
    (ap (bits_in n) d ∙ bits-not n (b / 2) (omega arith))
  where
    flip_digit : (x : ℕ) → x < 2 → eqb (1 - x) 1 ≡ not (eqb x 1)
    flip_digit zero h = refl
    flip_digit (suc zero) h = refl
    flip_digit (suc (suc x)) h = absurd (omega arith)

steady-one : (n a b s : ℕ) → any_of (λ e. e.steady && not (Bool·beq false e.under_v2)) (pins_in n a b s) ≡ any_both (bits_in n s) (bits_in n b)
unfolding bits_in pins_in any_both
steady-one zero a b s = refl
steady-one (suc n) a b s =
    ap₂ (λ x y. (eqb (s % 2) 1 && x) || y) (is_one (eqb (b % 2) 1)) (steady-one n (a / 2) (b / 2) (s / 2))
  where
    is_one : (v : Bool) → not (Bool·beq false v) ≡ v
    is_one true = refl
    is_one false = refl

steady-zero : (n a b s : ℕ) → any_of (λ e. e.steady && not (Bool·beq true e.under_v2)) (pins_in n a b s) ≡ any_both (bits_in n s) (map not (bits_in n b))
unfolding bits_in pins_in any_both
steady-zero zero a b s = refl
steady-zero (suc n) a b s =
    ap₂ (λ x y. (eqb (s % 2) 1 && x) || y) (is-not (eqb (b % 2) 1)) (steady-zero n (a / 2) (b / 2) (s / 2))
  where
    is-not : (v : Bool) → not (Bool·beq true v) ≡ not v
    is-not true = refl
    is-not false = refl

and_cross : (x xs y ys : Bool) → ((x && xs) && (y && ys)) ≡ ((x && y) && (xs && ys))
and_cross true true y ys = refl
and_cross true false true ys = refl
and_cross true false false ys = refl
and_cross false xs y ys = refl

-- two tests of every other entry
all_of_both : {A : Type 0} (f g : A → Bool) (xs : List A) → (all_of f xs && all_of g xs) ≡ all_of (λ x. f x && g x) xs
all_of_both f g [] = refl
all_of_both f g (x ∷ xs) = and_cross (f x) (all_of f xs) (g x) (all_of g xs) ∙ ap (λ b. (f x && g x) && b) (all_of_both f g xs)

others-both : {A : Type 0} (f g : A → Bool) (xs : List A) (p : ℕ) → (others f xs p && others g xs p) ≡ others (λ x. f x && g x) xs p
others-both f g [] p = refl
others-both f g (x ∷ xs) zero = all_of_both f g xs
others-both f g (x ∷ xs) (suc p) = and_cross (f x) (others f xs p) (g x) (others g xs p) ∙ ap (λ b. (f x && g x) && b) (others-both f g xs p)

-- the other pins of a robustly open pin, by two tests
pub sides-rule : (v : Bool) (ns : List Evaluation) (p : ℕ)
    → (others (λ e. Bool·beq v e.under_v2) ns p && (Bool·beq v (get_or ns p no_evaluation).under_v2 || others (λ e. e.steady) ns p)) ≡ robust_sides v ns p
sides-rule v ns p = go (Bool·beq v (get_or ns p no_evaluation).under_v2)
  where
    go : (t : Bool)
        → (others (λ e. Bool·beq v e.under_v2) ns p && (t || others (λ e. e.steady) ns p))
        ≡ elim t [ true ↦ others (λ e. Bool·beq v e.under_v2) ns p | false ↦ others (λ e. e.steady && Bool·beq v e.under_v2) ns p ]
    go true = and-true (others (λ e. Bool·beq v e.under_v2) ns p)
    go false =
        and_comm (others (λ e. Bool·beq v e.under_v2) ns p) (others (λ e. e.steady) ns p)
        ∙ others-both (λ e. e.steady) (λ e. Bool·beq v e.under_v2) ns p

beq_true : (v : Bool) → v ≡ Bool·beq true v
beq_true true = refl
beq_true false = refl

beq_false : (v : Bool) → not v ≡ Bool·beq false v
beq_false true = refl
beq_false false = refl

module _ (n a b s : ℕ) (h : n ≤ 8) (l : b < 2 ^ n) (m : s < 2 ^ n) where
  all-steady : eqb s (2 ^ n - 1) ≡ all_of (λ e. e.steady) (pins_in n a b s)
  all-steady =
      all_ones n s h m ∙ ap (all_of (λ v. v)) (sym (calms n a b s)) ∙ all_of_map (λ v. v) (λ e. e.steady) (pins_in n a b s)

  some-both : (c : ℕ) → not (eqb (bit_and s c) 0) ≡ any_both (bits_in n s) (bits_in n c)
  some-both c = some_one n (bit_and s c) h (and_small c) ∙ any_and n s c
    where
      and_small : (c : ℕ) → bit_and s c < 2 ^ n
      and_small c = native.Mathlib.Nat.lt_of_le_of_lt (lib.Bits.and_le_l s c) m

  pub steady-and : steady_by_of (2 ^ n - 1) s (2 ^ n - 1 - b) ≡ gate_steady and (pins_in n a b s)
  steady-and =
      ap₂ (λ x y. x || y) all-steady (some-both (2 ^ n - 1 - b) ∙ ap (any_both (bits_in n s)) (bits-not n b l) ∙ sym (steady-zero n a b s))

  pub steady-or : steady_by_of (2 ^ n - 1) s b ≡ gate_steady or (pins_in n a b s)
  steady-or = ap₂ (λ x y. x || y) all-steady (some-both b ∙ sym (steady-one n a b s))

  pub steady-xor : eqb s (2 ^ n - 1) ≡ gate_steady xor (pins_in n a b s)
  steady-xor = all-steady ∙ sym (or-false (all_of (λ e. e.steady) (pins_in n a b s)))

  -- Robustly open pins
  module _ (p : ℕ) (k : p < n) where
    moved : bit (bit_xor a b) p ≡ not (Bool·beq (get_or (pins_in n a b s) p no_evaluation).under_v1 (get_or (pins_in n a b s) p no_evaluation).under_v2)
    moved = xor_bit a b p ∙ ap (λ (e : Evaluation). not (Bool·beq e.under_v1 e.under_v2)) (sym (pin_at n a b s p k))

    ends : bit b p ≡ (get_or (pins_in n a b s) p no_evaluation).under_v2
    ends = ap (λ (e : Evaluation). e.under_v2) (sym (pin_at n a b s p k))

    sides-calm : bit (open_set_of (2 ^ n - 1) (2 ^ n - 1 - s)) p ≡ others (λ e. e.steady) (pins_in n a b s) p
    sides-calm =
        open_marked n s h m p k ∙ ap (λ vs. others (λ v. v) vs p) (sym (calms n a b s)) ∙ others-map (λ v. v) (λ e. e.steady) (pins_in n a b s) p

    sides-and : bit (open_set_of (2 ^ n - 1) (2 ^ n - 1 - b)) p ≡ others (λ e. Bool·beq true e.under_v2) (pins_in n a b s) p
    sides-and =
        open_zeros n b h l p k ∙ ap (λ vs. others (Bool·beq true) vs p) (sym (lasts n a b s)) ∙ others-map (Bool·beq true) (λ e. e.under_v2) (pins_in n a b s) p

    sides-or : bit (open_set_of (2 ^ n - 1) b) p ≡ others (λ e. Bool·beq false e.under_v2) (pins_in n a b s) p
    sides-or =
        open_ones n b h l p k ∙ ap (λ vs. others (Bool·beq false) vs p) (sym (lasts n a b s)) ∙ others-map (Bool·beq false) (λ e. e.under_v2) (pins_in n a b s) p

    -- the mask of the kinds with a non-controlling value `v`: `ending` are the pins that end at it
    robust_mask : (v : Bool) (clear ending : ℕ) → bit clear p ≡ others (λ e. Bool·beq v e.under_v2) (pins_in n a b s) p
        → bit ending p ≡ Bool·beq v (get_or (pins_in n a b s) p no_evaluation).under_v2
        → bit (bit_and (bit_and (bit_xor a b) clear) (bit_or ending (open_set_of (2 ^ n - 1) (2 ^ n - 1 - s)))) p
        ≡ (differs (get_or (pins_in n a b s) p no_evaluation) && robust_sides v (pins_in n a b s) p)
    robust_mask v clear ending o e =
        and_bit (bit_and (bit_xor a b) clear) (bit_or ending (open_set_of (2 ^ n - 1) (2 ^ n - 1 - s))) p
        ∙ ap₂ (λ x y. x && y) (and_bit (bit_xor a b) clear p ∙ ap₂ (λ x y. x && y) moved o)
        (or_bit ending (open_set_of (2 ^ n - 1) (2 ^ n - 1 - s)) p ∙ ap₂ (λ x y. x || y) e sides-calm)
        ∙ and_assoc (differs (get_or (pins_in n a b s) p no_evaluation)) (others (λ e. Bool·beq v e.under_v2) (pins_in n a b s) p) _
        ∙ ap (λ x. differs (get_or (pins_in n a b s) p no_evaluation) && x) (sides-rule v (pins_in n a b s) p)

    pub robust_and : bit (bit_and (bit_and (bit_xor a b) (open_set_of (2 ^ n - 1) (2 ^ n - 1 - b))) (bit_or b (open_set_of (2 ^ n - 1) (2 ^ n - 1 - s)))) p
        ≡ is_open robust and (pins_in n a b s) p
    robust_and = robust_mask true (open_set_of (2 ^ n - 1) (2 ^ n - 1 - b)) b sides-and (ends ∙ beq_true (get_or (pins_in n a b s) p no_evaluation).under_v2)

    pub robust_or : bit (bit_and (bit_and (bit_xor a b) (open_set_of (2 ^ n - 1) b)) (bit_or (2 ^ n - 1 - b) (open_set_of (2 ^ n - 1) (2 ^ n - 1 - s)))) p
        ≡ is_open robust or (pins_in n a b s) p
    robust_or =
        robust_mask false (open_set_of (2 ^ n - 1) b) (2 ^ n - 1 - b) sides-or
        (bit_not n b h l p k ∙ ap not ends ∙ beq_false (get_or (pins_in n a b s) p no_evaluation).under_v2)

    pub robust_xor : bit (bit_and (bit_xor a b) (open_set_of (2 ^ n - 1) (2 ^ n - 1 - s))) p ≡ is_open robust xor (pins_in n a b s) p
    robust_xor = and_bit (bit_xor a b) (open_set_of (2 ^ n - 1) (2 ^ n - 1 - s)) p ∙ ap₂ (λ x y. x && y) moved sides-calm

-- A pin of a gate with one pin has no others
pub robust_single : (kind a b s : ℕ) → (kind ≡ 1) ⊎ (kind ≡ 2) → (p : ℕ) → p < 1 → is_open robust xor (pins_in 1 a b s) p ≡ is_open robust (kind_of kind) (pins_in 1 a b s) p
unfolding pins_in
robust_single kind a b s (inl e) zero h = rw e refl
robust_single kind a b s (inr e) zero h = rw e refl
robust_single kind a b s e (suc p) h = absurd (not-suc-le-zero (le_of_suc-le-suc h))
