-- A gate's open pins, kind by kind.
use Rattle.model.proofs.Prelude.{ℕ, ◌≤◌, ◌<◌, ◌+◌, ◌-◌, ◌*◌, suc, ◌^◌, zero, ◌%◌, ◌≡◌, ◌∙◌, ap, refl, true, Bool, false, ◌&&◌, Bool·beq, List, []}
use Rattle.model.proofs.Prelude.{◌∷◌, map, leb, leb→le, mod-eq_of_lt, arith, ne_eqb, eq-eqb}
use lib.Bits.{bit_and}
use lib.Pow.{pow-lt}
use Rattle.model.specs.Base.{all_of, bit}
use Rattle.model.specs.Detect.{nonRobust, Evaluation, others, is_open}
use Rattle.model.specs.Read.{kind_of}
use Rattle.model.proofs.BoolLaws.{and_right}
use Rattle.model.proofs.ReadLaws.{pins-fit}
use Rattle.gate_packed_pins.specs.Packed.{bits_in, open_set_of, PackedPins}
use Rattle.gate_packed_pins.proofs.PackedLaws.{open_zeros, open_ones, all-open}

-- a test of every other entry, by what the entries are mapped to
pub all_of_map : {A B : Type 0} (f : B → Bool) (g : A → B) (xs : List A) → all_of f (map g xs) ≡ all_of (λ x. f (g x)) xs
all_of_map f g [] = refl
all_of_map f g (x ∷ xs) = ap (λ b. f (g x) && b) (all_of_map f g xs)

pub others-map : {A B : Type 0} (f : B → Bool) (g : A → B) (xs : List A) (p : ℕ) → others f (map g xs) p ≡ others (λ x. f (g x)) xs p
others-map f g [] p = refl
others-map f g (x ∷ xs) zero = all_of_map f g xs
others-map f g (x ∷ xs) (suc p) = ap (λ b. f (g x) && b) (others-map f g xs p)

-- no kind is over 8
pub no-ninth : (k : ℕ) → suc (suc (suc (suc (suc (suc (suc (suc (suc k)))))))) ≤ 8 → ⊥
no-ninth k h = omega arith

-- the pins of the other kinds are always open
pub always : (k : ℕ) (vs : List Evaluation) (p : ℕ) → (k ≡ 3 → ⊥) → (k ≡ 4 → ⊥) → (k ≡ 5 → ⊥) → (k ≡ 6 → ⊥) → true ≡ is_open nonRobust (kind_of k) vs p
always zero vs p n3 n4 n5 n6 = refl
always (suc zero) vs p n3 n4 n5 n6 = refl
always (suc (suc zero)) vs p n3 n4 n5 n6 = refl
always (suc (suc (suc zero))) vs p n3 n4 n5 n6 = absurd (n3 refl)
always (suc (suc (suc (suc zero)))) vs p n3 n4 n5 n6 = absurd (n4 refl)
always (suc (suc (suc (suc (suc zero))))) vs p n3 n4 n5 n6 = absurd (n5 refl)
always (suc (suc (suc (suc (suc (suc zero)))))) vs p n3 n4 n5 n6 = absurd (n6 refl)
always (suc (suc (suc (suc (suc (suc (suc zero))))))) vs p n3 n4 n5 n6 = refl
always (suc (suc (suc (suc (suc (suc (suc (suc zero)))))))) vs p n3 n4 n5 n6 = refl
always (suc (suc (suc (suc (suc (suc (suc (suc (suc k))))))))) vs p n3 n4 n5 n6 = refl

module _ (kind pins packed : ℕ) (h : PackedPins kind pins packed) where
  pub few : pins ≤ 8
  few = leb→le pins 8 (and_right (leb 1 pins) (leb pins 8) (pins-fit kind pins h.fits))

  module _ (full : ℕ) (f : full ≡ 2 ^ pins - 1) where
    pub open_and : (r : ℕ) → r ≡ open_set_of full (full - packed) → (kind ≡ 3)
        → (ns : List Evaluation) → bits_in pins packed ≡ map (λ n. n.under_v2) ns → (p : ℕ) → p < pins → bit r p ≡ is_open nonRobust (kind_of kind) ns p
    open_and r q e ns m p k =
        rw (e, q, f) (open_zeros pins packed few h.small p k ∙ ap (λ vs. others (Bool·beq true) vs p) m ∙ others-map (Bool·beq true) (λ n. n.under_v2) ns p)

    pub open_nand : (r : ℕ) → r ≡ open_set_of full (full - packed) → (kind ≡ 4)
        → (ns : List Evaluation) → bits_in pins packed ≡ map (λ n. n.under_v2) ns → (p : ℕ) → p < pins → bit r p ≡ is_open nonRobust (kind_of kind) ns p
    open_nand r q e ns m p k =
        rw (e, q, f) (open_zeros pins packed few h.small p k ∙ ap (λ vs. others (Bool·beq true) vs p) m ∙ others-map (Bool·beq true) (λ n. n.under_v2) ns p)

    pub open_or : (r : ℕ) → r ≡ open_set_of full packed → (kind ≡ 5)
        → (ns : List Evaluation) → bits_in pins packed ≡ map (λ n. n.under_v2) ns → (p : ℕ) → p < pins → bit r p ≡ is_open nonRobust (kind_of kind) ns p
    open_or r q e ns m p k =
        rw (e, q, f) (open_ones pins packed few h.small p k ∙ ap (λ vs. others (Bool·beq false) vs p) m ∙ others-map (Bool·beq false) (λ n. n.under_v2) ns p)

    pub open_nor : (r : ℕ) → r ≡ open_set_of full packed → (kind ≡ 6)
        → (ns : List Evaluation) → bits_in pins packed ≡ map (λ n. n.under_v2) ns → (p : ℕ) → p < pins → bit r p ≡ is_open nonRobust (kind_of kind) ns p
    open_nor r q e ns m p k =
        rw (e, q, f) (open_ones pins packed few h.small p k ∙ ap (λ vs. others (Bool·beq false) vs p) m ∙ others-map (Bool·beq false) (λ n. n.under_v2) ns p)

    pub open_rest : (kind ≡ 3 → ⊥) → (kind ≡ 4 → ⊥) → (kind ≡ 5 → ⊥) → (kind ≡ 6 → ⊥)
        → (ns : List Evaluation) → bits_in pins packed ≡ map (λ n. n.under_v2) ns → (p : ℕ) → p < pins → bit full p ≡ is_open nonRobust (kind_of kind) ns p
    open_rest n3 n4 n5 n6 ns m p k = ap (λ x. bit x p) f ∙ all-open pins p few k ∙ always kind ns p n3 n4 n5 n6

-- the set of open pins, case by case
module _ (full c : ℕ) where
  pub none-controls : c ≡ 0 → full ≡ open_set_of full c
  unfolding open_set_of
  none-controls e = rw e refl

  -- the number below, in a byte
  lower : c < 256 → (c ≡ 0 → ⊥) → (c + 255) % 256 ≡ c - 1
  lower l n = omega arith

  pub one-controls : c < 256 → (c ≡ 0 → ⊥) → bit_and c ((c + 255) % 256) ≡ 0 → c ≡ open_set_of full c
  unfolding open_set_of
  one-controls l n e =
      let m : bit_and c (c - 1) ≡ 0 = rw (lower l n) at e in
      rw (ne_eqb c 0 n, eq-eqb (bit_and c (c - 1)) 0 m, open_set_of) refl

  pub more-control : c < 256 → (bit_and c ((c + 255) % 256) ≡ 0 → ⊥) → 0 ≡ open_set_of full c
  unfolding open_set_of
  more-control l e =
      let n : c ≡ 0 → ⊥ = λ z. e (rw z refl) in
      let m : bit_and c (c - 1) ≡ 0 → ⊥ = rw (lower l n) at e in
      rw (ne_eqb c 0 n, ne_eqb (bit_and c (c - 1)) 0 m, open_set_of) refl

-- all pins of a gate
pub eight-pins : (pins : ℕ) → pins ≡ 8 → 255 ≡ 2 ^ pins - 1
eight-pins pins e = rw e refl

pub shifted_one : (pins : ℕ) → pins < 8 → (1 * 2 ^ pins) % 256 ≡ 2 ^ pins
shifted_one pins h = let m : 1 * 2 ^ pins ≡ 2 ^ pins = omega arith in rw (m, mod-eq_of_lt (pow-lt h))
