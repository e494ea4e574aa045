-- Cases of `in_second`: a test with another behind it.
use Rattle.model.proofs.Prelude.{ℕ, ◌≡◌, refl, inl, inr, ◌⊎◌, true, Bool, false, ◌||◌, eqb, ne_eqb, eq-eqb}

pub or_cases-true : (x y : Bool) → (x || y) ≡ true → (x ≡ true) ⊎ (y ≡ true)
or_cases-true true y e = inl refl
or_cases-true false y e = inr e

pub or_cases-false : (x y : Bool) → (x || y) ≡ false → (x ≡ false) × (y ≡ false)
or_cases-false true y e = absurd (mathlib.Core.Bool.true≢false e)
or_cases-false false y e = (refl, e)

module _ (d x : ℕ) where
  pub second-yes : d ≡ 0 → (y : Bool) → true ≡ (eqb d 0 || y)
  second-yes z y = let w = eq-eqb d 0 z in rw w refl

  pub second-ask : (d ≡ 0 → ⊥) → (r y : Bool) → r ≡ y → r ≡ (eqb d 0 || y)
  second-ask z r y e = let w = ne_eqb d 0 z in rw w e
