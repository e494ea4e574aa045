-- A changed input of a pair of packed vectors: where the spare bits are zero, some input is changed exactly when some byte is.
use Rattle.model.proofs.Prelude.{ℕ, ◌≤◌, ◌<◌, ◌+◌, ◌-◌, ◌*◌, ◌/◌, ◌%◌, ◌≡◌, ◌∙◌, ap, refl, sym, subst, ap₂, true, Bool, false, not, Bool·beq, List}
use Rattle.model.proofs.Prelude.{get_or, T, arith}
use Rattle.model.specs.Base.{bit, numbers_from}
use Rattle.model.specs.Read.{input_bit, vector_bytes_of, spare_zero_of, is_changed, some_change_of}
use Rattle.model.proofs.BoolLaws.{not→false, cases}
use Rattle.model.proofs.ListLaws.{all_of_at, length-numbers_from, numbers_from-at, some_of, any_of_lem}
use Rattle.record_bytes.proofs.BitLaws.{bits-same}

unequal : (a b : Bool) → a ≡ b → T (not (Bool·beq a b)) → ⊥
unequal true true e t = t
unequal true false e t = mathlib.Core.Bool.true≢false e
unequal false true e t = mathlib.Core.Bool.false≢true e
unequal false false e t = t

equal : (a b : Bool) → (T (not (Bool·beq a b)) → ⊥) → a ≡ b
equal true true h = refl
equal true false h = absurd (h tt)
equal false true h = absurd (h tt)
equal false false h = refl

module _ (v1 v2 : List ℕ) where
  -- the bytes before `k` are equal
  abbrev pub EqualBefore : ℕ → Type 0
  EqualBefore k = (i : ℕ) → i < k → get_or v1 i 0 ≡ get_or v2 i 0

  pub equal-more : (k : ℕ) → EqualBefore k → get_or v1 k 0 ≡ get_or v2 k 0 → EqualBefore (k + 1)
  equal-more k e here i h = cases k i (λ l. let q : k ≡ i = omega arith in subst (λ p. get_or v1 p 0 ≡ get_or v2 p 0) q here) (λ l. e i l)

module _ (v1 v2 : List ℕ) (inputs : ℕ) where
  -- equal bytes: no input is changed
  pub no_change : EqualBefore v1 v2 (vector_bytes_of inputs) → false ≡ some_change_of inputs v1 v2
  no_change e = sym (not→false (some_change_of inputs v1 v2) (λ t.
      let s = some_of (is_changed v1 v2) inputs 0 t in
      let j = s.place in
      unequal (input_bit v1 j) (input_bit v2 j) (ap (λ b. bit b (j % 8)) (e (j / 8) (omega (arith, s.high)))) s.passes))

  -- a spare bit
  spare-bit : (v : List ℕ) → T (spare_zero_of inputs v) → (j : ℕ) → inputs ≤ j → j < 8 * vector_bytes_of inputs → input_bit v j ≡ false
  spare-bit v z j l h =
      let n = 8 * vector_bytes_of inputs - inputs in
      let place : get_or (numbers_from inputs n) (j - inputs) 0 ≡ j = omega (arith, numbers_from-at n inputs (j - inputs) (omega arith)) in
      let t = all_of_at (λ i. not (input_bit v i)) (numbers_from inputs n) 0 z (j - inputs) (omega (arith, length-numbers_from inputs n)) in
      lacks (input_bit v j) (rw place at t)
    where
      lacks : (b : Bool) → T (not b) → b ≡ false
      lacks true t = absurd t
      lacks false t = refl

  -- bytes that differ: some input is changed
  module _ (z₁ : T (spare_zero_of inputs v1)) (z₂ : T (spare_zero_of inputs v2)) where
    bits-equal : some_change_of inputs v1 v2 ≡ false → (j : ℕ) → j < 8 * vector_bytes_of inputs → input_bit v1 j ≡ input_bit v2 j
    bits-equal q j h =
        cases inputs j
        (λ l. spare-bit v1 z₁ j l h ∙ sym (spare-bit v2 z₂ j l h))
        (λ l. equal (input_bit v1 j) (input_bit v2 j) (λ t. none (some_change_of inputs v1 v2) q (any_of_lem (is_changed v1 v2) inputs 0 j (omega arith) (omega arith) t)))
      where
        none : (b : Bool) → b ≡ false → T b → ⊥
        none true e t = mathlib.Core.Bool.true≢false e
        none false e t = t

    bytes-equal : some_change_of inputs v1 v2 ≡ false → (k : ℕ) → k < vector_bytes_of inputs → get_or v1 k 0 < 256 → get_or v2 k 0 < 256 → get_or v1 k 0 ≡ get_or v2 k 0
    bytes-equal q k h s₁ s₂ =
        bits-same 8 (get_or v1 k 0) (get_or v2 k 0) s₁ s₂ (λ i l.
        let d : (8 * k + i) / 8 ≡ k = omega arith in
        let m : (8 * k + i) % 8 ≡ i = omega arith in
        sym (ap₂ (λ x y. bit (get_or v1 x 0) y) d m) ∙ bits-equal q (8 * k + i) (omega arith) ∙ ap₂ (λ x y. bit (get_or v2 x 0) y) d m)

    pub changed-byte : (k : ℕ) → k < vector_bytes_of inputs → get_or v1 k 0 < 256 → get_or v2 k 0 < 256 → (get_or v1 k 0 ≡ get_or v2 k 0 → ⊥) → true ≡ some_change_of inputs v1 v2
    changed-byte k h s₁ s₂ d = go (some_change_of inputs v1 v2) (λ q. d (bytes-equal q k h s₁ s₂))
      where
        go : (b : Bool) → (b ≡ false → ⊥) → true ≡ b
        go true f = refl
        go false f = absurd (f refl)
