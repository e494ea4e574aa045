-- What evaluating a gate's net yields and its open pins in each class, kind by kind.
use Rattle.model.proofs.Prelude.{ℕ, ◌≤◌, ◌<◌, ◌-◌, suc, ◌^◌, zero, ◌≡◌, ◌∙◌, ap, refl, sym, inl, inr, Bool, not, List, map, eqb, arith}
use lib.Bits.{bit_and, bit_or, bit_xor}
use Rattle.model.specs.Base.{bit}
use Rattle.model.specs.Netlist.{buffer, xor}
use Rattle.model.specs.Detect.{nonRobust, robust, Evaluation, gate_value, gate_steady, gate_evaluation, is_open}
use Rattle.model.specs.Read.{kind_of, class_of}
use Rattle.gate_packed_pins.specs.Packed.{bits_in, parity_of, open_set_of}
use Rattle.gate_logic.specs.States.{state_of, word_of, pins_in, steady_by_of, PackedStates}
use Rattle.gate_logic.specs.declared.inner.PinStates.{PinStates}
use Rattle.gate_packed_pins.proofs.KindCases.{few, no-ninth}
use Rattle.gate_logic.proofs.ValueCases.{one-pin, eighth, value-1, value-2, value-3, value-4, value-5, value-6, value-7, value-8}
use Rattle.gate_logic.proofs.StateLaws.{firsts, lasts, steady-and, steady-or, steady-xor, robust_and, robust_or, robust_xor, robust_single}

-- one pin
one-steady : (s : ℕ) → s < 2 → not (eqb s 0) ≡ eqb s 1
one-steady zero h = refl
one-steady (suc zero) h = refl
one-steady (suc (suc s)) h = absurd (omega arith)

module _ (kind pins : ℕ) (p : PinStates) (h : PackedStates kind pins p) where
  abbrev ns : List Evaluation
  ns = pins_in pins p.v1 p.v2 p.steady

  pub pins-few : pins ≤ 8
  pins-few = few kind pins p.v2 h.last

  -- a word with the three parts is the whole's
  made : (v1 v2 calm : Bool) → v1 ≡ gate_value (kind_of kind) (bits_in pins p.v1) → v2 ≡ gate_value (kind_of kind) (bits_in pins p.v2)
      → calm ≡ gate_steady (kind_of kind) ns → (w : ℕ) → w ≡ word_of (state_of v1 v2 calm) → w ≡ word_of (gate_evaluation (kind_of kind) ns)
  made v1 v2 calm a b s w e = e ∙ ap word_of (λ i. record {
    under_v1 = (a ∙ ap (gate_value (kind_of kind)) (sym (firsts pins p.v1 p.v2 p.steady))) i;
    under_v2 = (b ∙ ap (gate_value (kind_of kind)) (sym (lasts pins p.v1 p.v2 p.steady))) i;
    steady = s i;
  })

  single-steady : (n : ℕ) → n ≡ 1 → pins ≡ n → not (eqb p.steady 0) ≡ gate_steady buffer (pins_in pins p.v1 p.v2 p.steady)
  single-steady n e f =
      let q : pins ≡ 1 = f ∙ e in
      let l : p.steady < 2 = rw q at h.calm.small in
      let m : 2 ^ pins - 1 ≡ 1 = rw q refl in
      one-steady p.steady l ∙ ap (eqb p.steady) (sym m)
      ∙ steady-xor pins p.v1 p.v2 p.steady pins-few h.last.small h.calm.small

  pub eval_1 : kind ≡ 1 → (w : ℕ) → w ≡ word_of (state_of (not (eqb p.v1 0)) (not (eqb p.v2 0)) (not (eqb p.steady 0))) → w ≡ word_of (gate_evaluation (kind_of kind) ns)
  eval_1 e =
      made _ _ (not (eqb p.steady 0)) (value-1 kind pins p.v1 h.first e) (value-1 kind pins p.v2 h.last e)
      (rw e (single-steady 1 refl (one-pin kind pins p.v2 h.last (omega arith))))

  pub eval_2 : kind ≡ 2 → (w : ℕ) → w ≡ word_of (state_of (eqb p.v1 0) (eqb p.v2 0) (not (eqb p.steady 0))) → w ≡ word_of (gate_evaluation (kind_of kind) ns)
  eval_2 e =
      made _ _ (not (eqb p.steady 0)) (value-2 kind pins p.v1 h.first e) (value-2 kind pins p.v2 h.last e)
      (rw e (single-steady 1 refl (one-pin kind pins p.v2 h.last (omega arith))))

  pub eval_5 : (full : ℕ) → full ≡ 2 ^ pins - 1 → (r : Bool) → r ≡ steady_by_of full p.steady p.v2 → kind ≡ 5
      → (w : ℕ) → w ≡ word_of (state_of (not (eqb p.v1 0)) (not (eqb p.v2 0)) r) → w ≡ word_of (gate_evaluation (kind_of kind) ns)
  eval_5 full f r q e =
      made _ _ r (value-5 kind pins p.v1 h.first e) (value-5 kind pins p.v2 h.last e)
      (rw (e, q, f) (steady-or pins p.v1 p.v2 p.steady pins-few h.last.small h.calm.small))

  pub eval_6 : (full : ℕ) → full ≡ 2 ^ pins - 1 → (r : Bool) → r ≡ steady_by_of full p.steady p.v2 → kind ≡ 6
      → (w : ℕ) → w ≡ word_of (state_of (eqb p.v1 0) (eqb p.v2 0) r) → w ≡ word_of (gate_evaluation (kind_of kind) ns)
  eval_6 full f r q e =
      made _ _ r (value-6 kind pins p.v1 h.first e) (value-6 kind pins p.v2 h.last e)
      (rw (e, q, f) (steady-or pins p.v1 p.v2 p.steady pins-few h.last.small h.calm.small))

  module _ (full : ℕ) (f : full ≡ 2 ^ pins - 1) where
    pub eval_3 : (r : Bool) → r ≡ steady_by_of full p.steady (full - p.v2) → kind ≡ 3
        → (w : ℕ) → w ≡ word_of (state_of (eqb p.v1 full) (eqb p.v2 full) r) → w ≡ word_of (gate_evaluation (kind_of kind) ns)
    eval_3 r q e =
        made _ _ r (value-3 kind pins p.v1 h.first full f e) (value-3 kind pins p.v2 h.last full f e)
        (rw (e, q, f) (steady-and pins p.v1 p.v2 p.steady pins-few h.last.small h.calm.small))

    pub eval_4 : (r : Bool) → r ≡ steady_by_of full p.steady (full - p.v2) → kind ≡ 4
        → (w : ℕ) → w ≡ word_of (state_of (not (eqb p.v1 full)) (not (eqb p.v2 full)) r) → w ≡ word_of (gate_evaluation (kind_of kind) ns)
    eval_4 r q e =
        made _ _ r (value-4 kind pins p.v1 h.first full f e) (value-4 kind pins p.v2 h.last full f e)
        (rw (e, q, f) (steady-and pins p.v1 p.v2 p.steady pins-few h.last.small h.calm.small))

    pub eval_7 : (a b : Bool) → a ≡ parity_of p.v1 → b ≡ parity_of p.v2 → kind ≡ 7
        → (w : ℕ) → w ≡ word_of (state_of a b (eqb p.steady full)) → w ≡ word_of (gate_evaluation (kind_of kind) ns)
    eval_7 a b x y e =
        made _ _ (eqb p.steady full) (value-7 kind pins p.v1 h.first a x e) (value-7 kind pins p.v2 h.last b y e)
        (rw (e, f) (steady-xor pins p.v1 p.v2 p.steady pins-few h.last.small h.calm.small))

    pub eval_8 : (a b : Bool) → a ≡ parity_of p.v1 → b ≡ parity_of p.v2
        → (kind ≡ 1 → ⊥) → (kind ≡ 2 → ⊥) → (kind ≡ 3 → ⊥) → (kind ≡ 4 → ⊥) → (kind ≡ 5 → ⊥) → (kind ≡ 6 → ⊥) → (kind ≡ 7 → ⊥)
        → (w : ℕ) → w ≡ word_of (state_of (not a) (not b) (eqb p.steady full)) → w ≡ word_of (gate_evaluation (kind_of kind) ns)
    eval_8 a b x y n1 n2 n3 n4 n5 n6 n7 =
        let e : kind ≡ 8 = eighth kind h.last.low_kind h.last.high_kind n1 n2 n3 n4 n5 n6 n7 in
        made _ _ (eqb p.steady full) (value-8 kind pins p.v1 h.first a x n1 n2 n3 n4 n5 n6 n7) (value-8 kind pins p.v2 h.last b y n1 n2 n3 n4 n5 n6 n7)
        (rw (e, f) (steady-xor pins p.v1 p.v2 p.steady pins-few h.last.small h.calm.small))

    module _ (calm : ℕ) (q : calm ≡ open_set_of full (full - p.steady)) where
      pub robust_3 : (o : ℕ) → o ≡ open_set_of full (full - p.v2) → kind ≡ 3
          → (x : ℕ) → x < pins → bit (bit_and (bit_and (bit_xor p.v1 p.v2) o) (bit_or p.v2 calm)) x ≡ is_open robust (kind_of kind) ns x
      robust_3 o k e x l = rw (e, k, q, f) (robust_and pins p.v1 p.v2 p.steady pins-few h.last.small h.calm.small x l)

      pub robust_4 : (o : ℕ) → o ≡ open_set_of full (full - p.v2) → kind ≡ 4
          → (x : ℕ) → x < pins → bit (bit_and (bit_and (bit_xor p.v1 p.v2) o) (bit_or p.v2 calm)) x ≡ is_open robust (kind_of kind) ns x
      robust_4 o k e x l = rw (e, k, q, f) (robust_and pins p.v1 p.v2 p.steady pins-few h.last.small h.calm.small x l)

      pub robust_5 : (o : ℕ) → o ≡ open_set_of full p.v2 → kind ≡ 5
          → (x : ℕ) → x < pins → bit (bit_and (bit_and (bit_xor p.v1 p.v2) o) (bit_or (full - p.v2) calm)) x ≡ is_open robust (kind_of kind) ns x
      robust_5 o k e x l = rw (e, k, q, f) (robust_or pins p.v1 p.v2 p.steady pins-few h.last.small h.calm.small x l)

      pub robust_6 : (o : ℕ) → o ≡ open_set_of full p.v2 → kind ≡ 6
          → (x : ℕ) → x < pins → bit (bit_and (bit_and (bit_xor p.v1 p.v2) o) (bit_or (full - p.v2) calm)) x ≡ is_open robust (kind_of kind) ns x
      robust_6 o k e x l = rw (e, k, q, f) (robust_or pins p.v1 p.v2 p.steady pins-few h.last.small h.calm.small x l)

      -- the kinds with no controlling value
      rest-open : (k : ℕ) → 1 ≤ k → k ≤ 8 → (k ≡ 3 → ⊥) → (k ≡ 4 → ⊥) → (k ≡ 5 → ⊥) → (k ≡ 6 → ⊥) → (k ≤ 2 → pins ≡ 1)
          → (x : ℕ) → x < pins → is_open robust xor ns x ≡ is_open robust (kind_of k) ns x
      rest-open zero a b n3 n4 n5 n6 one x l = absurd (omega arith)
      rest-open (suc zero) a b n3 n4 n5 n6 one x l = single-open 1 (one (omega arith)) x l
        where
          single-open : (k : ℕ) → pins ≡ 1 → (x : ℕ) → x < pins → is_open robust xor ns x ≡ is_open robust (kind_of 1) ns x
          single-open k e x l = let m : x < 1 = rw e at l in rw e (robust_single 1 p.v1 p.v2 p.steady (inl refl) x m)
      rest-open (suc (suc zero)) a b n3 n4 n5 n6 one x l = single-open 2 (one (omega arith)) x l
        where
          single-open : (k : ℕ) → pins ≡ 1 → (x : ℕ) → x < pins → is_open robust xor ns x ≡ is_open robust (kind_of 2) ns x
          single-open k e x l = let m : x < 1 = rw e at l in rw e (robust_single 2 p.v1 p.v2 p.steady (inr refl) x m)
      rest-open (suc (suc (suc zero))) a b n3 n4 n5 n6 one x l = absurd (n3 refl)
      rest-open (suc (suc (suc (suc zero)))) a b n3 n4 n5 n6 one x l = absurd (n4 refl)
      rest-open (suc (suc (suc (suc (suc zero))))) a b n3 n4 n5 n6 one x l = absurd (n5 refl)
      rest-open (suc (suc (suc (suc (suc (suc zero)))))) a b n3 n4 n5 n6 one x l = absurd (n6 refl)
      rest-open (suc (suc (suc (suc (suc (suc (suc zero))))))) a b n3 n4 n5 n6 one x l = refl
      rest-open (suc (suc (suc (suc (suc (suc (suc (suc zero)))))))) a b n3 n4 n5 n6 one x l = refl
      rest-open (suc (suc (suc (suc (suc (suc (suc (suc (suc k))))))))) a b n3 n4 n5 n6 one x l = absurd (no-ninth k b)

      pub robust_rest : (kind ≡ 3 → ⊥) → (kind ≡ 4 → ⊥) → (kind ≡ 5 → ⊥) → (kind ≡ 6 → ⊥)
          → (x : ℕ) → x < pins → bit (bit_and (bit_xor p.v1 p.v2) calm) x ≡ is_open robust (kind_of kind) ns x
      robust_rest n3 n4 n5 n6 x l =
          let r : bit (bit_and (bit_xor p.v1 p.v2) calm) x ≡ is_open robust xor ns x =
          rw (q, f) (robust_xor pins p.v1 p.v2 p.steady pins-few h.last.small h.calm.small x l) in
          r ∙ rest-open kind h.last.low_kind h.last.high_kind n3 n4 n5 n6 (one-pin kind pins p.v2 h.last) x l

  -- the open pins of a class
  pub class-robust : (class mask : ℕ) → class ≡ 2 → ((x : ℕ) → x < pins → bit mask x ≡ is_open robust (kind_of kind) ns x)
      → (x : ℕ) → x < pins → bit mask x ≡ is_open (class_of class) (kind_of kind) ns x
  class-robust class mask e o x l = rw e (o x l)

  other : (k : ℕ) → (k ≡ 2 → ⊥) → class_of k ≡ nonRobust
  other zero n = refl
  other (suc zero) n = refl
  other (suc (suc zero)) n = absurd (n refl)
  other (suc (suc (suc k))) n = refl

  pub class-other : (class mask : ℕ) → (class ≡ 2 → ⊥)
      → ((xs : List Evaluation) → bits_in pins p.v2 ≡ map (λ n. n.under_v2) xs → (x : ℕ) → x < pins → bit mask x ≡ is_open nonRobust (kind_of kind) xs x)
      → (x : ℕ) → x < pins → bit mask x ≡ is_open (class_of class) (kind_of kind) ns x
  class-other class mask n o x l =
      o ns (sym (lasts pins p.v1 p.v2 p.steady)) x l ∙ ap (λ c. is_open c (kind_of kind) ns x) (sym (other class n))
