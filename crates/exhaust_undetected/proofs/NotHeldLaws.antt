-- The list of the faults that are not held: its first number and what comes after it, and how many they are.
use Rattle.model.proofs.Prelude.{ℕ, ◌≤◌, ◌<◌, ◌+◌, ◌-◌, suc, zero, ◌≡◌, ◌∙◌, ap, refl, sym, subst, ap₂, ⊎_elim, true, false, List, [], ◌∷◌, get_or}
use Rattle.model.proofs.Prelude.{arith}
use Rattle.model.proofs.BoolLaws.{bool_cases, cases}
use Rattle.exhaust_undetected.specs.Undetected.{held_number, not_held_from}
use Rattle.exhaust_undetected.specs.Searches.{FirstNotHeld}

module _ (ws : List ℕ) where
  pub skip_held : (f n : ℕ) → held_number ws f ≡ true → not_held_from ws f (suc n) ≡ not_held_from ws (suc f) n
  unfolding not_held_from
  skip_held f n q = rw (q, not_held_from) refl

  pub take-free : (f n : ℕ) → held_number ws f ≡ false → not_held_from ws f (suc n) ≡ f ∷ not_held_from ws (suc f) n
  unfolding not_held_from
  take-free f n q = rw (q, not_held_from) refl

  -- all are held
  pub none_free : (n f : ℕ) → ((k : ℕ) → f ≤ k → k < f + n → held_number ws k ≡ true) → not_held_from ws f n ≡ []
  unfolding not_held_from
  none_free zero f h = refl
  none_free (suc n) f h = skip_held f n (h f (omega arith) (omega arith)) ∙ none_free n (suc f) (λ k a b. h k (omega arith) (omega arith))

  -- the first that is not held
  pub first-free : (n f g : ℕ) → FirstNotHeld g ws f → g < f + n → not_held_from ws f n ≡ g ∷ not_held_from ws (suc g) (f + n - suc g)
  first-free zero f g x l = absurd (omega (arith, x.not_before))
  first-free (suc n) f g x l =
      cases g f
      (λ (m : g ≤ f).
      let e : f ≡ g = omega (arith, x.not_before) in
      let k : n ≡ f + suc n - suc g = omega arith in
      take-free f n (subst (λ (j : ℕ). held_number ws j ≡ false) (sym e) x.is_free) ∙ ap₂ (λ (j i : ℕ). j ∷ not_held_from ws (suc j) i) e k)
      (λ (m : f < g).
      let k : suc f + n - suc g ≡ f + suc n - suc g = omega arith in
      skip_held f n (x.passed f (omega arith) m)
      ∙ first-free n (suc f) g (record { not_before = m; passed = λ j a b. x.passed j (omega arith) b; is_free = x.is_free }) (omega arith)
      ∙ ap (λ (i : ℕ). g ∷ not_held_from ws (suc g) i) k)

  -- what comes after the first of a list
  pub record Begins (f n : ℕ) (x : ℕ) (xs : List ℕ) : Type 0 where
    pub not_before : f ≤ x
    pub inside : x < f + n
    pub others : xs ≡ not_held_from ws (suc x) (f + n - suc x)

  pub begins : (n f x : ℕ) (xs : List ℕ) → not_held_from ws f n ≡ x ∷ xs → Begins f n x xs
  unfolding not_held_from
  begins zero f x xs e = absurd (nil≢ e)
    where
      is_nil : List ℕ → Type 0
      is_nil [] = Unit {0}
      is_nil (y ∷ ys) = ⊥

      nil≢ : [] ≡ x ∷ xs → ⊥
      nil≢ q = subst is_nil q tt
  begins (suc n) f x xs e =
      ⊎_elim
      (λ (q : held_number ws f ≡ true).
      let b = begins n (suc f) x xs (sym (skip_held f n q) ∙ e) in
      let k : suc f + n - suc x ≡ f + suc n - suc x = omega arith in
      record {
        not_before = omega (arith, b.not_before);
        inside = omega (arith, b.inside);
        others = b.others ∙ ap (not_held_from ws (suc x)) k;
      })
      (λ (q : held_number ws f ≡ false).
      let c : f ∷ not_held_from ws (suc f) n ≡ x ∷ xs = sym (take-free f n q) ∙ e in
      let h : f ≡ x = ap (λ (l : List ℕ). get_or l 0 0) c in
      let t : not_held_from ws (suc f) n ≡ xs = ap (λ (l : List ℕ). lib.ListN.drop 1 l) c in
      let k : n ≡ f + suc n - suc x = omega arith in
      record { not_before = omega arith; inside = omega arith; others = sym t ∙ ap₂ (λ (j i : ℕ). not_held_from ws (suc j) i) h k })
      (bool_cases (held_number ws f))
