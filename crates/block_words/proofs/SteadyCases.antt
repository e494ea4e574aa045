-- A gate's steadiness word, kind by kind.
use Rattle.model.proofs.Prelude.{ℕ, ◌<◌, ◌-◌, suc, ◌^◌, zero, ◌≡◌, ◌∙◌, ap, refl, sym, subst, ap₂, true, Bool, false, ◌&&◌, not, ◌||◌, or-false}
use Rattle.model.proofs.Prelude.{Bool·not-not, List, map}
use lib.Bits.{bit_or}
use Rattle.model.specs.Base.{all_of, any_of, bit}
use Rattle.model.specs.Detect.{Evaluation, gate_steady}
use Rattle.model.specs.Read.{kind_of}
use Rattle.gate_packed_pins.proofs.KindCases.{all_of_map}
use Rattle.record_bytes.proofs.BitLaws.{or_bit, zero_bit}
use Rattle.block_words.specs.Words.{unequal, noncontrolling_mask_of}
use Rattle.block_words.specs.Robust.{SteadyIs}
use Rattle.block_words.proofs.WordBitLaws.{not_bit}
use Rattle.block_words.proofs.TallyLaws.{any_zero}
use Rattle.block_words.proofs.OpenWordCases.{ones-at}

-- no pin is unsteady: all are steady
all-steady : (ns : List Evaluation) → not (any_of (unequal true) (map (λ n. n.steady) ns)) ≡ all_of (λ n. n.steady) ns
all-steady ns =
    ap not (any_zero (map (λ n. n.steady) ns)) ∙ Bool·not-not (all_of (λ v. v) (map (λ n. n.steady) ns)) ∙ all_of_map (λ v. v) (λ n. n.steady) ns

module _ (kind unsteady steady_controlling_of : ℕ) (s : unsteady < 2 ^ 64) where
  -- the kinds with a non-controlling value `b`
  steady_by : (k : ℕ) (b : Bool) → ((t : ℕ) → t < 64 → bit (noncontrolling_mask_of (kind_of k)) t ≡ b)
      → ((ns : List Evaluation) → (all_of (λ n. n.steady) ns || any_of (λ n. n.steady && unequal b n.under_v2) ns) ≡ gate_steady (kind_of k) ns)
      → SteadyIs k unsteady steady_controlling_of (bit_or (2 ^ 64 - 1 - unsteady) steady_controlling_of)
  steady_by k b f o = record {
    at = λ ns t h x y.
        or_bit (2 ^ 64 - 1 - unsteady) steady_controlling_of t
        ∙ ap₂ (λ a c. a || c) (not_bit unsteady t s h ∙ ap not x ∙ all-steady ns) (y ∙ ap (λ d. any_of (λ n. n.steady && unequal d n.under_v2) ns) (f t h))
        ∙ o ns;
  }

  pub steady-and : kind ≡ 3 → SteadyIs kind unsteady steady_controlling_of (bit_or (2 ^ 64 - 1 - unsteady) steady_controlling_of)
  steady-and e = subst (λ k. SteadyIs k unsteady steady_controlling_of (bit_or (2 ^ 64 - 1 - unsteady) steady_controlling_of)) (sym e) (steady_by 3 true ones-at (λ ns. refl))

  pub steady-nand : kind ≡ 4 → SteadyIs kind unsteady steady_controlling_of (bit_or (2 ^ 64 - 1 - unsteady) steady_controlling_of)
  steady-nand e = subst (λ k. SteadyIs k unsteady steady_controlling_of (bit_or (2 ^ 64 - 1 - unsteady) steady_controlling_of)) (sym e) (steady_by 4 true ones-at (λ ns. refl))

  pub steady-or : kind ≡ 5 → SteadyIs kind unsteady steady_controlling_of (bit_or (2 ^ 64 - 1 - unsteady) steady_controlling_of)
  steady-or e = subst (λ k. SteadyIs k unsteady steady_controlling_of (bit_or (2 ^ 64 - 1 - unsteady) steady_controlling_of)) (sym e) (steady_by 5 false (λ t h. zero_bit t) (λ ns. refl))

  pub steady-nor : kind ≡ 6 → SteadyIs kind unsteady steady_controlling_of (bit_or (2 ^ 64 - 1 - unsteady) steady_controlling_of)
  steady-nor e = subst (λ k. SteadyIs k unsteady steady_controlling_of (bit_or (2 ^ 64 - 1 - unsteady) steady_controlling_of)) (sym e) (steady_by 6 false (λ t h. zero_bit t) (λ ns. refl))

  -- the other kinds
  steady-rest : (k : ℕ) (ns : List Evaluation) → (k ≡ 3 → ⊥) → (k ≡ 4 → ⊥) → (k ≡ 5 → ⊥) → (k ≡ 6 → ⊥) → all_of (λ n. n.steady) ns ≡ gate_steady (kind_of k) ns
  steady-rest zero ns n3 n4 n5 n6 = sym (or-false (all_of (λ n. n.steady) ns))
  steady-rest (suc zero) ns n3 n4 n5 n6 = sym (or-false (all_of (λ n. n.steady) ns))
  steady-rest (suc (suc zero)) ns n3 n4 n5 n6 = sym (or-false (all_of (λ n. n.steady) ns))
  steady-rest (suc (suc (suc zero))) ns n3 n4 n5 n6 = absurd (n3 refl)
  steady-rest (suc (suc (suc (suc zero)))) ns n3 n4 n5 n6 = absurd (n4 refl)
  steady-rest (suc (suc (suc (suc (suc zero))))) ns n3 n4 n5 n6 = absurd (n5 refl)
  steady-rest (suc (suc (suc (suc (suc (suc zero)))))) ns n3 n4 n5 n6 = absurd (n6 refl)
  steady-rest (suc (suc (suc (suc (suc (suc (suc zero))))))) ns n3 n4 n5 n6 = sym (or-false (all_of (λ n. n.steady) ns))
  steady-rest (suc (suc (suc (suc (suc (suc (suc (suc zero)))))))) ns n3 n4 n5 n6 = sym (or-false (all_of (λ n. n.steady) ns))
  steady-rest (suc (suc (suc (suc (suc (suc (suc (suc (suc k))))))))) ns n3 n4 n5 n6 = sym (or-false (all_of (λ n. n.steady) ns))

  pub steady-others : (kind ≡ 3 → ⊥) → (kind ≡ 4 → ⊥) → (kind ≡ 5 → ⊥) → (kind ≡ 6 → ⊥) → SteadyIs kind unsteady steady_controlling_of (2 ^ 64 - 1 - unsteady)
  steady-others n3 n4 n5 n6 = record { at = λ ns t h x y. not_bit unsteady t s h ∙ ap not x ∙ all-steady ns ∙ steady-rest kind ns n3 n4 n5 n6 }
