-- The robustly open words of a gate's pins, kind by kind, and the open words in a class.
use Rattle.model.proofs.Prelude.{ℕ, ◌≤◌, ◌<◌, ◌-◌, suc, ◌^◌, zero, ◌≡◌, ◌∙◌, ap, refl, sym, subst, ap₂, true, Bool, false, ◌&&◌, not, ◌||◌, Bool·beq}
use Rattle.model.proofs.Prelude.{List, [], ◌∷◌, map, length, get_or, T, not-suc-le-zero, le_of_suc-le-suc, arith}
use lib.Bits.{bit_and, bit_or, bit_xor}
use Rattle.model.specs.Base.{all_of, bit}
use Rattle.model.specs.Detect.{nonRobust, robust, Evaluation, no_evaluation, others, robust_sides, differs, is_open}
use Rattle.model.specs.Read.{kind_of, class_of, pins_fit}
use Rattle.gate_packed_pins.proofs.KindCases.{others-map, no-ninth}
use Rattle.gate_logic.proofs.StateLaws.{sides-rule}
use Rattle.record_bytes.proofs.BitLaws.{and_bit, or_bit, xor_bit, zero_bit}
use Rattle.block_words.specs.Words.{unequal, noncontrolling_mask_of, TallyAt, SidesNoncontrolling, OpenIs}
use Rattle.block_words.specs.Robust.{evaluation_at, RobustIs}
use Rattle.block_words.specs.NetStates.{PinOpenIs}
use Rattle.block_words.specs.declared.inner.gates.PinTally.{PinTally}
use Rattle.block_words.specs.declared.inner.gates.PinScan.{PinScan}
use Rattle.block_words.proofs.WordBitLaws.{not_bit}
use Rattle.block_words.proofs.TallyLaws.{unequal-true}
use Rattle.block_words.proofs.OpenWordCases.{ones-at, one-pin, fact_length, fact_at}

unequal-not : (b v : Bool) → unequal b (not v) ≡ Bool·beq b v
unequal-not true true = refl
unequal-not true false = refl
unequal-not false true = refl
unequal-not false false = refl

module _ (last unsteady : PinTally) (mask v1 v2 steady othersSteady clear : ℕ) (small₂ : v2 < 2 ^ 64) (small₃ : steady < 2 ^ 64)
    (ac : SidesNoncontrolling unsteady.one unsteady.two (2 ^ 64 - 1 - steady) othersSteady) (al : SidesNoncontrolling last.one last.two (bit_xor mask v2) clear) where
  -- one pin, in one record
  module _ (ns : List Evaluation) (p t : ℕ) (h : t < 64) (l : p < length ns) (e : evaluation_at v1 v2 steady t ≡ get_or ns p no_evaluation) where
    ends : bit v2 t ≡ (get_or ns p no_evaluation).under_v2
    ends = ap (λ (n : Evaluation). n.under_v2) e

    moves : bit (bit_xor v1 v2) t ≡ differs (get_or ns p no_evaluation)
    moves = xor_bit v1 v2 t ∙ ap differs e

    steady-sides : TallyAt (map (λ n. n.steady) ns) true unsteady t → bit othersSteady t ≡ others (λ n. n.steady) ns p
    steady-sides s =
        let vs = map (λ n. n.steady) ns in
        let m : bit (2 ^ 64 - 1 - steady) t ≡ unequal true (get_or vs p false) =
        not_bit steady t small₃ h ∙ sym (unequal-true (bit steady t))
        ∙ ap (unequal true) (ap (λ (n : Evaluation). n.steady) e ∙ sym (fact_at ns p l (λ n. n.steady))) in
        ac.at vs true p t h (fact_length ns p l (λ n. n.steady)) s.ones s.twos m
        ∙ others-map (Bool·beq true) (λ n. n.steady) ns p ∙ same ns p
      where
        beq_true : (v : Bool) → Bool·beq true v ≡ v
        beq_true true = refl
        beq_true false = refl

        same-all : (ns : List Evaluation) → all_of (λ n. Bool·beq true n.steady) ns ≡ all_of (λ n. n.steady) ns
        same-all [] = refl
        same-all (n ∷ ns) = ap₂ (λ x y. x && y) (beq_true n.steady) (same-all ns)

        same : (ns : List Evaluation) (p : ℕ) → others (λ n. Bool·beq true n.steady) ns p ≡ others (λ n. n.steady) ns p
        same [] p = refl
        same (n ∷ ns) zero = same-all ns
        same (n ∷ ns) (suc p) = ap₂ (λ x y. x && y) (beq_true n.steady) (same ns p)

    module _ (b : Bool) (f : bit mask t ≡ b) where
      controls : bit (bit_xor mask v2) t ≡ unequal b (get_or ns p no_evaluation).under_v2
      controls = xor_bit mask v2 t ∙ ap₂ unequal f ends

      clear-sides : TallyAt (map (λ n. n.under_v2) ns) b last t → bit clear t ≡ others (λ n. Bool·beq b n.under_v2) ns p
      clear-sides s =
          al.at (map (λ n. n.under_v2) ns) b p t h (fact_length ns p l (λ n. n.under_v2)) s.ones s.twos
          (controls ∙ ap (unequal b) (sym (fact_at ns p l (λ n. n.under_v2))))
          ∙ others-map (Bool·beq b) (λ n. n.under_v2) ns p

      ends-clear : bit (bit_xor mask (2 ^ 64 - 1 - v2)) t ≡ Bool·beq b (get_or ns p no_evaluation).under_v2
      ends-clear =
          xor_bit mask (2 ^ 64 - 1 - v2) t ∙ ap₂ unequal f (not_bit v2 t small₂ h ∙ ap not ends) ∙ unequal-not b (get_or ns p no_evaluation).under_v2

      robust_bit : TallyAt (map (λ n. n.under_v2) ns) b last t → TallyAt (map (λ n. n.steady) ns) true unsteady t
          → bit (bit_and (bit_xor v1 v2) (bit_and clear (bit_or (bit_xor mask (2 ^ 64 - 1 - v2)) othersSteady))) t
          ≡ (differs (get_or ns p no_evaluation) && robust_sides b ns p)
      robust_bit s₁ s₂ =
          let c = bit_xor mask (2 ^ 64 - 1 - v2) in
          and_bit (bit_xor v1 v2) (bit_and clear (bit_or c othersSteady)) t
          ∙ ap₂ (λ x y. x && y) moves
          (and_bit clear (bit_or c othersSteady) t ∙ ap₂ (λ x y. x && y) (clear-sides s₁) (or_bit c othersSteady t ∙ ap₂ (λ x y. x || y) ends-clear (steady-sides s₂))
          ∙ sides-rule b ns p)

  -- the kinds with a non-controlling value
  abbrev sided : ℕ
  sided = bit_and (bit_xor v1 v2) (bit_and clear (bit_or (bit_xor mask (2 ^ 64 - 1 - v2)) othersSteady))

  robust_by : (k : ℕ) (b : Bool) → mask ≡ noncontrolling_mask_of (kind_of k) → ((t : ℕ) → t < 64 → bit (noncontrolling_mask_of (kind_of k)) t ≡ b)
      → ((ns : List Evaluation) (p : ℕ) → (differs (get_or ns p no_evaluation) && robust_sides b ns p) ≡ is_open robust (kind_of k) ns p)
      → RobustIs k last unsteady v1 v2 steady sided
  robust_by k b f g o = record {
    at = λ ns p t h l q s₁ s₂ e.
        robust_bit ns p t h l e b (ap (λ x. bit x t) f ∙ g t h) (subst (λ c. TallyAt (map (λ n. n.under_v2) ns) c last t) (g t h) s₁) s₂ ∙ o ns p;
  }

  pub robust_and : (kind : ℕ) → kind ≡ 3 → mask ≡ noncontrolling_mask_of (kind_of kind)
      → RobustIs kind last unsteady v1 v2 steady (bit_and (bit_xor v1 v2) (bit_and clear (bit_or (bit_xor mask (2 ^ 64 - 1 - v2)) othersSteady)))
  robust_and kind e f =
      subst (λ k. RobustIs k last unsteady v1 v2 steady sided) (sym e) (robust_by 3 true (f ∙ ap (λ k. noncontrolling_mask_of (kind_of k)) e) ones-at (λ ns p. refl))

  pub robust_nand : (kind : ℕ) → kind ≡ 4 → mask ≡ noncontrolling_mask_of (kind_of kind)
      → RobustIs kind last unsteady v1 v2 steady (bit_and (bit_xor v1 v2) (bit_and clear (bit_or (bit_xor mask (2 ^ 64 - 1 - v2)) othersSteady)))
  robust_nand kind e f =
      subst (λ k. RobustIs k last unsteady v1 v2 steady sided) (sym e) (robust_by 4 true (f ∙ ap (λ k. noncontrolling_mask_of (kind_of k)) e) ones-at (λ ns p. refl))

  pub robust_or : (kind : ℕ) → kind ≡ 5 → mask ≡ noncontrolling_mask_of (kind_of kind)
      → RobustIs kind last unsteady v1 v2 steady (bit_and (bit_xor v1 v2) (bit_and clear (bit_or (bit_xor mask (2 ^ 64 - 1 - v2)) othersSteady)))
  robust_or kind e f =
      subst (λ k. RobustIs k last unsteady v1 v2 steady sided) (sym e)
      (robust_by 5 false (f ∙ ap (λ k. noncontrolling_mask_of (kind_of k)) e) (λ t h. zero_bit t) (λ ns p. refl))

  pub robust_nor : (kind : ℕ) → kind ≡ 6 → mask ≡ noncontrolling_mask_of (kind_of kind)
      → RobustIs kind last unsteady v1 v2 steady (bit_and (bit_xor v1 v2) (bit_and clear (bit_or (bit_xor mask (2 ^ 64 - 1 - v2)) othersSteady)))
  robust_nor kind e f =
      subst (λ k. RobustIs k last unsteady v1 v2 steady sided) (sym e)
      (robust_by 6 false (f ∙ ap (λ k. noncontrolling_mask_of (kind_of k)) e) (λ t h. zero_bit t) (λ ns p. refl))

  -- the other kinds: a pin of buffer and NOT has no others
  single-pin : (ns : List Evaluation) (p : ℕ) → length ns ≡ 1 → p < length ns → others (λ n. n.steady) ns p ≡ true
  single-pin [] p e h = refl
  single-pin (n ∷ []) zero e h = refl
  single-pin (n ∷ []) (suc p) e h = absurd (not-suc-le-zero (le_of_suc-le-suc h))
  single-pin (n ∷ m ∷ ns) p e h = absurd (many (length ns) e)
    where
      many : (k : ℕ) → suc (suc k) ≡ 1 → ⊥
      many k e = omega arith

  rest-open : (k : ℕ) (ns : List Evaluation) (p : ℕ) → (k ≡ 3 → ⊥) → (k ≡ 4 → ⊥) → (k ≡ 5 → ⊥) → (k ≡ 6 → ⊥) → T (pins_fit k (length ns)) → p < length ns
      → k ≤ 8 → (differs (get_or ns p no_evaluation) && others (λ n. n.steady) ns p) ≡ is_open robust (kind_of k) ns p
  rest-open zero ns p n3 n4 n5 n6 f l b = ap (λ c. differs (get_or ns p no_evaluation) && c) (single-pin ns p (one-pin 0 (length ns) (omega arith) f) l)
  rest-open (suc zero) ns p n3 n4 n5 n6 f l b = ap (λ c. differs (get_or ns p no_evaluation) && c) (single-pin ns p (one-pin 1 (length ns) (omega arith) f) l)
  rest-open (suc (suc zero)) ns p n3 n4 n5 n6 f l b =
      ap (λ c. differs (get_or ns p no_evaluation) && c) (single-pin ns p (one-pin 2 (length ns) (omega arith) f) l)
  rest-open (suc (suc (suc zero))) ns p n3 n4 n5 n6 f l b = absurd (n3 refl)
  rest-open (suc (suc (suc (suc zero)))) ns p n3 n4 n5 n6 f l b = absurd (n4 refl)
  rest-open (suc (suc (suc (suc (suc zero))))) ns p n3 n4 n5 n6 f l b = absurd (n5 refl)
  rest-open (suc (suc (suc (suc (suc (suc zero)))))) ns p n3 n4 n5 n6 f l b = absurd (n6 refl)
  rest-open (suc (suc (suc (suc (suc (suc (suc zero))))))) ns p n3 n4 n5 n6 f l b = refl
  rest-open (suc (suc (suc (suc (suc (suc (suc (suc zero)))))))) ns p n3 n4 n5 n6 f l b = refl
  rest-open (suc (suc (suc (suc (suc (suc (suc (suc (suc k))))))))) ns p n3 n4 n5 n6 f l b = absurd (no-ninth k b)

  pub robust_others : (kind : ℕ) → kind ≤ 8 → (kind ≡ 3 → ⊥) → (kind ≡ 4 → ⊥) → (kind ≡ 5 → ⊥) → (kind ≡ 6 → ⊥)
      → RobustIs kind last unsteady v1 v2 steady (bit_and (bit_xor v1 v2) othersSteady)
  robust_others kind b n3 n4 n5 n6 = record {
    at = λ ns p t h l q s₁ s₂ e.
        and_bit (bit_xor v1 v2) othersSteady t ∙ ap₂ (λ x y. x && y) (moves ns p t h l e) (steady-sides ns p t h l e s₂) ∙ rest-open kind ns p n3 n4 n5 n6 q l b;
  }

-- the open word of a pin in a class
module _ {class kind : ℕ} {scan : PinScan} {v1 v2 steady r : ℕ} where
  pub class-robust : class ≡ 2 → RobustIs kind scan.last scan.unsteady v1 v2 steady r → PinOpenIs (class_of class) kind scan v1 v2 steady r
  class-robust e o = rw e (record { at = λ ns p t h l f s₁ s₂ v. o.at ns p t h l f s₁ s₂ v })

  pub class-plain : (class ≡ 2 → ⊥) → OpenIs kind scan.last v2 r → PinOpenIs (class_of class) kind scan v1 v2 steady r
  class-plain n o =
      subst (λ c. PinOpenIs c kind scan v1 v2 steady r) (other class n)
      (record { at = λ ns p t h l f s₁ s₂ v. o.at ns p t h l s₁ (ap (λ (e : Evaluation). e.under_v2) v) })
    where
      other : (k : ℕ) → (k ≡ 2 → ⊥) → nonRobust ≡ class_of k
      other zero n = refl
      other (suc zero) n = refl
      other (suc (suc zero)) n = absurd (n refl)
      other (suc (suc (suc k))) n = refl
