-- A gate's value from its packed pins, kind by kind.
use Rattle.model.proofs.Prelude.{ℕ, ◌≤◌, ◌<◌, ◌-◌, suc, ◌^◌, zero, ◌≡◌, ◌∙◌, ap, refl, sym, ⊎_elim, Bool, ◌&&◌, not, Bool·not-not, leb, eqb, leb→le}
use Rattle.model.proofs.Prelude.{eqb→eq, arith}
use Rattle.model.specs.Detect.{gate_value}
use Rattle.model.specs.Read.{kind_of, within}
use Rattle.model.proofs.BoolLaws.{and_left, and_right, or_cases}
use Rattle.gate_packed_pins.specs.Packed.{bits_in, parity_of, PackedPins}
use Rattle.gate_packed_pins.proofs.PackedLaws.{all_ones, some_one, odd-ones, single, single-not}
use Rattle.gate_packed_pins.proofs.KindCases.{few}

pub eighth : (k : ℕ) → 1 ≤ k → k ≤ 8 → (k ≡ 1 → ⊥) → (k ≡ 2 → ⊥) → (k ≡ 3 → ⊥) → (k ≡ 4 → ⊥)
    → (k ≡ 5 → ⊥) → (k ≡ 6 → ⊥) → (k ≡ 7 → ⊥) → k ≡ 8
eighth zero a b n1 n2 n3 n4 n5 n6 n7 = absurd (omega arith)
eighth (suc zero) a b n1 n2 n3 n4 n5 n6 n7 = absurd (n1 refl)
eighth (suc (suc zero)) a b n1 n2 n3 n4 n5 n6 n7 = absurd (n2 refl)
eighth (suc (suc (suc zero))) a b n1 n2 n3 n4 n5 n6 n7 = absurd (n3 refl)
eighth (suc (suc (suc (suc zero)))) a b n1 n2 n3 n4 n5 n6 n7 = absurd (n4 refl)
eighth (suc (suc (suc (suc (suc zero))))) a b n1 n2 n3 n4 n5 n6 n7 = absurd (n5 refl)
eighth (suc (suc (suc (suc (suc (suc zero)))))) a b n1 n2 n3 n4 n5 n6 n7 = absurd (n6 refl)
eighth (suc (suc (suc (suc (suc (suc (suc zero))))))) a b n1 n2 n3 n4 n5 n6 n7 = absurd (n7 refl)
eighth (suc (suc (suc (suc (suc (suc (suc (suc k)))))))) a b n1 n2 n3 n4 n5 n6 n7 = past k b
  where
    past : (k : ℕ) → suc (suc (suc (suc (suc (suc (suc (suc k))))))) ≤ 8 → suc (suc (suc (suc (suc (suc (suc (suc k))))))) ≡ 8
    past k b = omega arith

module _ (kind pins packed : ℕ) (h : PackedPins kind pins packed) where
  -- buffer and NOT have one pin
  pub one-pin : kind ≤ 2 → pins ≡ 1
  one-pin k =
      ⊎_elim (λ t. eqb→eq pins 1 (and_right (leb kind 2) (eqb pins 1) t))
      (λ t. absurd (omega (arith, leb→le 3 kind (and_left (leb 3 kind) (within 1 8 pins) t))))
      (or_cases (leb kind 2 && eqb pins 1) (leb 3 kind && within 1 8 pins) h.fits)

  pub value-1 : kind ≡ 1 → not (eqb packed 0) ≡ gate_value (kind_of kind) (bits_in pins packed)
  value-1 e =
      let p : pins ≡ 1 = one-pin (omega arith) in
      let l : packed < 2 = rw p at h.small in
      rw (e, p) (single packed l)

  pub value-2 : kind ≡ 2 → eqb packed 0 ≡ gate_value (kind_of kind) (bits_in pins packed)
  value-2 e =
      let p : pins ≡ 1 = one-pin (omega arith) in
      let l : packed < 2 = rw p at h.small in
      rw (e, p) (single-not packed l)

  module _ (full : ℕ) (f : full ≡ 2 ^ pins - 1) where
    pub value-3 : kind ≡ 3 → eqb packed full ≡ gate_value (kind_of kind) (bits_in pins packed)
    value-3 e = rw (e, f) (all_ones pins packed (few kind pins packed h) h.small)

    pub value-4 : kind ≡ 4 → not (eqb packed full) ≡ gate_value (kind_of kind) (bits_in pins packed)
    value-4 e = rw (e, f) (ap not (all_ones pins packed (few kind pins packed h) h.small))

  pub value-5 : kind ≡ 5 → not (eqb packed 0) ≡ gate_value (kind_of kind) (bits_in pins packed)
  value-5 e = rw e (some_one pins packed (few kind pins packed h) h.small)

  pub value-6 : kind ≡ 6 → eqb packed 0 ≡ gate_value (kind_of kind) (bits_in pins packed)
  value-6 e = rw e (sym (Bool·not-not (eqb packed 0)) ∙ ap not (some_one pins packed (few kind pins packed h) h.small))

  pub value-7 : (r : Bool) → r ≡ parity_of packed → kind ≡ 7 → r ≡ gate_value (kind_of kind) (bits_in pins packed)
  value-7 r q e = rw e (q ∙ odd-ones pins packed (few kind pins packed h) h.small)

  pub value-8 : (r : Bool) → r ≡ parity_of packed
      → (kind ≡ 1 → ⊥) → (kind ≡ 2 → ⊥) → (kind ≡ 3 → ⊥) → (kind ≡ 4 → ⊥) → (kind ≡ 5 → ⊥) → (kind ≡ 6 → ⊥) → (kind ≡ 7 → ⊥)
      → not r ≡ gate_value (kind_of kind) (bits_in pins packed)
  value-8 r q n1 n2 n3 n4 n5 n6 n7 =
      let e : kind ≡ 8 = eighth kind h.low_kind h.high_kind n1 n2 n3 n4 n5 n6 n7 in
      rw e (ap not (q ∙ odd-ones pins packed (few kind pins packed h) h.small))
