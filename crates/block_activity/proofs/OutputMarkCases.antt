-- The live outputs of each record, output by output.
use Rattle.model.proofs.Prelude.{ℕ, ◌≤◌, ◌<◌, ◌+◌, ◌*◌, suc, ◌^◌, zero, ◌/◌, ◌%◌, ◌≡◌, ◌∙◌, ap, refl, sym, ap₂, ⊎_elim, true, Bool, ◌&&◌, and-false}
use Rattle.model.proofs.Prelude.{and-true, List, length, get_or, replicate, leb, eqb, ltb, eqb→eq, pow-suc, arith}
use lib.Dec.{eqb-suc-suc, eqb-suc-zero, eqb-zero-suc}
use Rattle.model.specs.Base.{bit}
use Rattle.model.proofs.BoolLaws.{T→true, not→false, eq→eqb, le-true, lt-false, le_or_lt, equal_or_not}
use Rattle.model.proofs.ListLaws.{zeros-at}
use Rattle.record_bytes.proofs.BitLaws.{zero_bit, one_shifted}
use Rattle.block_words.specs.Words.{unequal}
use Rattle.block_words.specs.Masks.{Flipped}
use Rattle.block_words.specs.NetStates.{plane}
use Rattle.record_bytes.proofs.BitLaws.{half-bit, first_bit}
use Rattle.block_words.proofs.TruthLaws.{unequal-none, unequal-false}
use Rattle.block_activity.specs.EdgeMarks.{OutsAre}
use Rattle.block_words.proofs.PlaneLaws.{plane-at}
use Rattle.block_activity.specs.Layout.{out_at}

-- a power of two has one bit
power_bit : (o s : ℕ) → bit (2 ^ o) s ≡ eqb s o
power_bit zero zero = refl
power_bit zero (suc s) = half-bit 1 s ∙ zero_bit s ∙ sym (eqb-suc-zero s)
power_bit (suc o) zero = first_bit (2 ^ suc o) ∙ ap (λ x. eqb x 1) (even (2 ^ suc o) (2 ^ o) (pow-suc 2 o)) ∙ sym (eqb-zero-suc o)
  where
    even : (w v : ℕ) → w ≡ v * 2 → w % 2 ≡ 0
    even w v e = omega arith
power_bit (suc o) (suc s) = half-bit (2 ^ suc o) s ∙ ap (λ x. bit x s) (half (2 ^ suc o) (2 ^ o) (pow-suc 2 o)) ∙ power_bit o s ∙ sym (eqb-suc-suc s o)
  where
    half : (w v : ℕ) → w ≡ v * 2 → w / 2 ≡ v
    half w v e = omega arith

mask_bit : (o s : ℕ) → o < 64 → bit ((1 * 2 ^ o) % 2 ^ 64) s ≡ eqb s o
mask_bit o s h = ap (λ w. bit w s) (one_shifted o h) ∙ power_bit o s

-- the word of a gate's net, and of an input
module _ (words : List ℕ) (inputs net edge : ℕ) where
  pub input-word : net < inputs → (t : ℕ) → bit 0 t ≡ (leb inputs net && bit (get_or (plane edge words) net 0) t)
  input-word h t = zero_bit t ∙ ap (λ b. b && bit (get_or (plane edge words) net 0) t) (sym (lt-false inputs net h))

  pub driven-word : net < 512 → inputs ≤ net → (t : ℕ) → bit (get_or words (8 * net + edge) 0) t ≡ (leb inputs net && bit (get_or (plane edge words) net 0) t)
  driven-word l h t =
      ap (λ w. bit w t) (sym (plane-at edge net words l)) ∙ ap (λ b. b && bit (get_or (plane edge words) net 0) t) (sym (le-true inputs net h))

-- the outputs before o are done
pub record Outputting (offsets : List ℕ) (inputs outputs : ℕ) (live outs : List ℕ) (o : ℕ) : Type 0 where
  pub to_end : o ≤ outputs
  pub room : length outs ≡ 64
  pub done : OutsAre offsets inputs o live outs

module _ (offsets : List ℕ) (inputs outputs : ℕ) (live : List ℕ) where
  shown : ℕ → ℕ → Bool
  shown t p = leb inputs (out_at offsets p) && bit (get_or live (out_at offsets p) 0) t

  pub outputs-start : Outputting offsets inputs outputs live (replicate 64 0) 0
  outputs-start = record {
    to_end = omega arith;
    room = refl;
    done = record {
      bits = λ t p h l.
          ap (λ w. bit w p) (zeros-at 64 t) ∙ zero_bit p
          ∙ ap (λ b. b && (leb inputs (out_at offsets p) && bit (get_or live (out_at offsets p) 0) t)) (sym (lt-false (suc p) 0 (omega arith)));
    };
  }

  module _ {outs outs' : List ℕ} {o : ℕ} (x : Outputting offsets inputs outputs live outs o) (few : outputs ≤ 64) (l : o < outputs) {word : ℕ}
      (w : (t : ℕ) → bit word t ≡ (leb inputs (out_at offsets o) && bit (get_or live (out_at offsets o) 0) t))
      (f : Flipped outs outs' word ((1 * 2 ^ o) % 2 ^ 64)) where
    flipped-bit : (t p : ℕ) → t < 64 → p < 64 → bit (get_or outs' t 0) p ≡ unequal (ltb p o && shown t p) (shown t o && eqb p o)
    unfolding shown
    flipped-bit t p h m = f.bits t h p ∙ ap₂ unequal (x.done.bits t p h m) (ap₂ (λ a b. a && b) (w t) (mask_bit o p (omega arith)))

    turned : (t p : ℕ) → unequal (ltb p o && shown t p) (shown t o && eqb p o) ≡ (ltb p (o + 1) && shown t p)
    turned t p =
        ⊎_elim
        (λ (e : p ≡ o).
        ap₂ (λ a b. unequal (a && shown t p) (shown t o && b)) (lt-false (suc p) o (omega arith)) (T→true (eqb p o) (eq→eqb p o e))
        ∙ unequal-false (shown t o && true) ∙ and-true (shown t o) ∙ ap (shown t) (sym e)
        ∙ ap (λ b. b && shown t p) (sym (le-true (suc p) (o + 1) (omega arith))))
        (λ (d : p ≡ o → ⊥).
        ap (λ b. unequal (ltb p o && shown t p) (shown t o && b)) (not→false (eqb p o) (λ u. d (eqb→eq p o u)))
        ∙ ap (unequal (ltb p o && shown t p)) (and-false (shown t o)) ∙ unequal-none (ltb p o && shown t p)
        ∙ ap (λ b. b && shown t p)
        (⊎_elim (λ (a : suc p ≤ o). le-true (suc p) o a ∙ sym (le-true (suc p) (o + 1) (omega arith)))
        (λ (a : o < suc p). lt-false (suc p) o a ∙ sym (lt-false (suc p) (o + 1) (omega (arith, d))))
        (le_or_lt (suc p) o)))
        (equal_or_not p o)

    pub outputs-step : Outputting offsets inputs outputs live outs' (o + 1)
    unfolding shown
    outputs-step = record {
      to_end = omega arith;
      room = f.same_length_of ∙ x.room;
      done = record { bits = λ t p h m. flipped-bit t p h m ∙ turned t p };
    }

  pub outputs-end : {outs : List ℕ} {o : ℕ} → outputs ≤ o → Outputting offsets inputs outputs live outs o → OutsAre offsets inputs outputs live outs
  outputs-end {outs} {o} h x =
      let e : o ≡ outputs = omega (arith, x.to_end) in
      record { bits = λ t p k l. x.done.bits t p k l ∙ ap (λ m. ltb p m && (leb inputs (out_at offsets p) && bit (get_or live (out_at offsets p) 0) t)) e }
