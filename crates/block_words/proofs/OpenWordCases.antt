-- A gate's value word and its open words in class 1, kind by kind.
use Rattle.model.proofs.Prelude.{ℕ, ◌≤◌, ◌<◌, ◌-◌, suc, ◌^◌, zero, ◌≡◌, ◌∙◌, ap, refl, sym, subst, ap₂, ⊎_elim, true, Bool, false, ◌&&◌, not, ◌||◌}
use Rattle.model.proofs.Prelude.{Bool·beq, Bool·not-not, List, [], ◌∷◌, map, length, get_or, length-map, leb, T, eqb, leb→le, eqb→eq, arith}
use lib.Bits.{bit_and, bit_or, bit_xor}
use Rattle.model.specs.Base.{all_of, any_of, bit}
use Rattle.model.specs.Detect.{nonRobust, Evaluation, no_evaluation, odd, others, is_open}
use Rattle.model.specs.Read.{kind_of, pins_fit, within}
use Rattle.model.proofs.BoolLaws.{and_left, and_right, or_cases}
use Rattle.model.proofs.ListLaws.{get_d_map-in}
use Rattle.gate_packed_pins.proofs.KindCases.{others-map, no-ninth, always}
use Rattle.record_bytes.proofs.BitLaws.{and_bit, or_bit, xor_bit, zero_bit}
use Rattle.block_words.specs.Words.{unequal, noncontrolling_mask_of, ValueIs, SidesNoncontrolling, OpenIs}
use Rattle.block_words.specs.declared.inner.gates.PinTally.{PinTally}
use Rattle.block_words.proofs.WordBitLaws.{not_bit, ones-bits}
use Rattle.block_words.proofs.TallyLaws.{any_zero, any_one, opens}

pub ones-at : (t : ℕ) → t < 64 → bit (2 ^ 64 - 1) t ≡ true
ones-at t h = ones-bits 64 t h

-- the mask of the kinds but AND and NAND
pub mask_of_others : (k : ℕ) → (k ≡ 3 → ⊥) → (k ≡ 4 → ⊥) → 0 ≡ noncontrolling_mask_of (kind_of k)
mask_of_others zero n3 n4 = refl
mask_of_others (suc zero) n3 n4 = refl
mask_of_others (suc (suc zero)) n3 n4 = refl
mask_of_others (suc (suc (suc zero))) n3 n4 = absurd (n3 refl)
mask_of_others (suc (suc (suc (suc zero)))) n3 n4 = absurd (n4 refl)
mask_of_others (suc (suc (suc (suc (suc zero))))) n3 n4 = refl
mask_of_others (suc (suc (suc (suc (suc (suc zero)))))) n3 n4 = refl
mask_of_others (suc (suc (suc (suc (suc (suc (suc zero))))))) n3 n4 = refl
mask_of_others (suc (suc (suc (suc (suc (suc (suc (suc zero)))))))) n3 n4 = refl
mask_of_others (suc (suc (suc (suc (suc (suc (suc (suc (suc k))))))))) n3 n4 = refl

-- what holds of NOT and XNOR holds of a kind that is none of the others
eighth : (k : ℕ) → 1 ≤ k → k ≤ 8 → (k ≡ 1 → ⊥) → (k ≡ 3 → ⊥) → (k ≡ 4 → ⊥) → (k ≡ 5 → ⊥) → (k ≡ 6 → ⊥) → (k ≡ 7 → ⊥)
    → (P : ℕ → Type 0) → P 2 → P 8 → P k
eighth zero a b n1 n3 n4 n5 n6 n7 P x y = absurd (omega arith)
eighth (suc zero) a b n1 n3 n4 n5 n6 n7 P x y = absurd (n1 refl)
eighth (suc (suc zero)) a b n1 n3 n4 n5 n6 n7 P x y = x
eighth (suc (suc (suc zero))) a b n1 n3 n4 n5 n6 n7 P x y = absurd (n3 refl)
eighth (suc (suc (suc (suc zero)))) a b n1 n3 n4 n5 n6 n7 P x y = absurd (n4 refl)
eighth (suc (suc (suc (suc (suc zero))))) a b n1 n3 n4 n5 n6 n7 P x y = absurd (n5 refl)
eighth (suc (suc (suc (suc (suc (suc zero)))))) a b n1 n3 n4 n5 n6 n7 P x y = absurd (n6 refl)
eighth (suc (suc (suc (suc (suc (suc (suc zero))))))) a b n1 n3 n4 n5 n6 n7 P x y = absurd (n7 refl)
eighth (suc (suc (suc (suc (suc (suc (suc (suc zero)))))))) a b n1 n3 n4 n5 n6 n7 P x y = y
eighth (suc (suc (suc (suc (suc (suc (suc (suc (suc k))))))))) a b n1 n3 n4 n5 n6 n7 P x y = absurd (no-ninth k b)

-- buffer and NOT have one pin
pub one-pin : (kind pins : ℕ) → kind ≤ 2 → T (pins_fit kind pins) → pins ≡ 1
one-pin kind pins k h =
    ⊎_elim (λ t. eqb→eq pins 1 (and_right (leb kind 2) (eqb pins 1) t))
    (λ t. absurd (omega (arith, leb→le 3 kind (and_left (leb 3 kind) (within 1 8 pins) t))))
    (or_cases (leb kind 2 && eqb pins 1) (leb 3 kind && within 1 8 pins) h)

odd-single : (vs : List Bool) → length vs ≡ 1 → odd vs ≡ get_or vs 0 false
odd-single [] e = refl
odd-single (true ∷ []) e = refl
odd-single (false ∷ []) e = refl
odd-single (v ∷ u ∷ vs) e = absurd (none (length vs) e)
  where
    none : (n : ℕ) → suc (suc n) ≡ 1 → ⊥
    none n e = omega arith

module _ (kind one parity : ℕ) where
  pub value-and : kind ≡ 3 → one < 2 ^ 64 → ValueIs kind one parity (2 ^ 64 - 1 - one)
  value-and e s = subst (λ k. ValueIs k one parity (2 ^ 64 - 1 - one)) (sym e) (record {
    at = λ vs t h f o q.
        not_bit one t s h ∙ ap not (o ∙ ap (λ b. any_of (unequal b) vs) (ones-at t h) ∙ any_zero vs) ∙ Bool·not-not (all_of (λ v. v) vs);
  })

  pub value-nand : kind ≡ 4 → ValueIs kind one parity one
  value-nand e = subst (λ k. ValueIs k one parity one) (sym e)
      (record { at = λ vs t h f o q. o ∙ ap (λ b. any_of (unequal b) vs) (ones-at t h) ∙ any_zero vs })

  pub value-or : kind ≡ 5 → ValueIs kind one parity one
  value-or e = subst (λ k. ValueIs k one parity one) (sym e)
      (record { at = λ vs t h f o q. o ∙ ap (λ b. any_of (unequal b) vs) (zero_bit t) ∙ any_one vs })

  pub value-nor : kind ≡ 6 → one < 2 ^ 64 → ValueIs kind one parity (2 ^ 64 - 1 - one)
  value-nor e s = subst (λ k. ValueIs k one parity (2 ^ 64 - 1 - one)) (sym e)
      (record { at = λ vs t h f o q. not_bit one t s h ∙ ap not (o ∙ ap (λ b. any_of (unequal b) vs) (zero_bit t) ∙ any_one vs) })

  pub value-buffer : kind ≡ 1 → ValueIs kind one parity parity
  value-buffer e = subst (λ k. ValueIs k one parity parity) (sym e)
      (record { at = λ vs t h f o q. q ∙ odd-single vs (one-pin 1 (length vs) (omega arith) f) })

  pub value-xor : kind ≡ 7 → ValueIs kind one parity parity
  value-xor e = subst (λ k. ValueIs k one parity parity) (sym e) (record { at = λ vs t h f o q. q })

  pub value-others : 1 ≤ kind → kind ≤ 8 → parity < 2 ^ 64
      → (kind ≡ 1 → ⊥) → (kind ≡ 3 → ⊥) → (kind ≡ 4 → ⊥) → (kind ≡ 5 → ⊥) → (kind ≡ 6 → ⊥) → (kind ≡ 7 → ⊥)
      → ValueIs kind one parity (2 ^ 64 - 1 - parity)
  value-others a b s n1 n3 n4 n5 n6 n7 = eighth kind a b n1 n3 n4 n5 n6 n7 (λ k. ValueIs k one parity (2 ^ 64 - 1 - parity))
      (record { at = λ vs t h f o q. not_bit parity t s h ∙ ap not (q ∙ odd-single vs (one-pin 2 (length vs) (omega arith) f)) })
      (record { at = λ vs t h f o q. not_bit parity t s h ∙ ap not q })

pub others-noncontrolling_word : (one two mark : ℕ) → one < 2 ^ 64 → two < 2 ^ 64 → SidesNoncontrolling one two mark (bit_or (2 ^ 64 - 1 - one) (bit_and (2 ^ 64 - 1 - two) mark))
others-noncontrolling_word one two mark s₁ s₂ = record {
  at = λ vs b p t h l o w m.
      or_bit (2 ^ 64 - 1 - one) (bit_and (2 ^ 64 - 1 - two) mark) t
      ∙ ap₂ (λ x y. x || y) (not_bit one t s₁ h ∙ ap not o)
      (and_bit (2 ^ 64 - 1 - two) mark t ∙ ap₂ (λ x y. x && y) (not_bit two t s₂ h ∙ ap not w) m)
      ∙ opens b vs p l;
}

-- every other pin is non-controlling, by the values at the pins
module _ (ns : List Evaluation) (p : ℕ) (l : p < length ns) (fact : Evaluation → Bool) where
  pub fact_length : p < length (map fact ns)
  fact_length = rw (length-map ns fact) l

  pub fact_at : get_or (map fact ns) p false ≡ fact (get_or ns p no_evaluation)
  fact_at = get_d_map-in fact ns p no_evaluation false l

-- in class 1 a pin of these kinds is open where `others_noncontrolling` says so
module _ (tally : PinTally) (mask value r : ℕ) (a : SidesNoncontrolling tally.one tally.two (bit_xor mask value) r) where
  open_by : (k : ℕ) (b : Bool) → mask ≡ noncontrolling_mask_of (kind_of k) → ((t : ℕ) → t < 64 → bit (noncontrolling_mask_of (kind_of k)) t ≡ b)
      → ((ns : List Evaluation) (p : ℕ) → others (λ n. Bool·beq b n.under_v2) ns p ≡ is_open nonRobust (kind_of k) ns p) → OpenIs k tally value r
  open_by k b f g o = record {
    at = λ ns p t h l s v.
        let vs = map (λ n. n.under_v2) ns in
        let c = bit (noncontrolling_mask_of (kind_of k)) t in
        let m : bit (bit_xor mask value) t ≡ unequal c (get_or vs p false) =
        xor_bit mask value t ∙ ap₂ unequal (ap (λ x. bit x t) f) (v ∙ sym (fact_at ns p l (λ n. n.under_v2))) in
        a.at vs c p t h (fact_length ns p l (λ n. n.under_v2)) s.ones s.twos m
        ∙ ap (λ d. others (Bool·beq d) vs p) (g t h)
        ∙ others-map (Bool·beq b) (λ n. n.under_v2) ns p ∙ o ns p;
  }

  pub open_and : (kind : ℕ) → kind ≡ 3 → mask ≡ noncontrolling_mask_of (kind_of kind) → OpenIs kind tally value r
  open_and kind e f = subst (λ k. OpenIs k tally value r) (sym e) (open_by 3 true (f ∙ ap (λ k. noncontrolling_mask_of (kind_of k)) e) ones-at (λ ns p. refl))

  pub open_nand : (kind : ℕ) → kind ≡ 4 → mask ≡ noncontrolling_mask_of (kind_of kind) → OpenIs kind tally value r
  open_nand kind e f = subst (λ k. OpenIs k tally value r) (sym e) (open_by 4 true (f ∙ ap (λ k. noncontrolling_mask_of (kind_of k)) e) ones-at (λ ns p. refl))

  pub open_or : (kind : ℕ) → kind ≡ 5 → mask ≡ noncontrolling_mask_of (kind_of kind) → OpenIs kind tally value r
  open_or kind e f = subst (λ k. OpenIs k tally value r) (sym e) (open_by 5 false (f ∙ ap (λ k. noncontrolling_mask_of (kind_of k)) e) (λ t h. zero_bit t) (λ ns p. refl))

  pub open_nor : (kind : ℕ) → kind ≡ 6 → mask ≡ noncontrolling_mask_of (kind_of kind) → OpenIs kind tally value r
  open_nor kind e f = subst (λ k. OpenIs k tally value r) (sym e) (open_by 6 false (f ∙ ap (λ k. noncontrolling_mask_of (kind_of k)) e) (λ t h. zero_bit t) (λ ns p. refl))

-- the pins of the other kinds are always open
pub open_others : (kind : ℕ) (tally : PinTally) (value : ℕ) → (kind ≡ 3 → ⊥) → (kind ≡ 4 → ⊥) → (kind ≡ 5 → ⊥) → (kind ≡ 6 → ⊥)
    → OpenIs kind tally value (2 ^ 64 - 1)
open_others kind tally value n3 n4 n5 n6 = record { at = λ ns p t h l s v. ones-at t h ∙ always kind ns p n3 n4 n5 n6 }
