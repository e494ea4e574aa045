-- What was read so far before what is left to read, for gates and outputs alike.
use Rattle.model.proofs.Prelude.{ℕ, ◌≡◌, ap, refl, sym, List, [], ◌∷◌, ◌++◌, append_assoc}
use Rattle.model.specs.Base.{Answer, refused, value, ◌into◌}

unfoldable pub ahead : {A : Type 0} → List A → Answer (List A × List ℕ) → Answer (List A × List ℕ)
ahead xs answer = answer into λ r. value (xs ++ r.0, r.1)

pub ahead-next : {A : Type 0} (xs : List A) (x : A) (answer : Answer (List A × List ℕ))
    → ahead xs (answer into λ r. value (x ∷ r.0, r.1)) ≡ ahead (xs ++ (x ∷ [])) answer
unfolding ahead
ahead-next xs x (refused n) = refl
ahead-next {A} xs x (value r) = ap (λ (l : List A). value (l, r.1)) (sym (append_assoc xs (x ∷ []) r.0))

pub ahead_none : {A : Type 0} (answer : Answer (List A × List ℕ)) → ahead [] answer ≡ answer
unfolding ahead
ahead_none (refused n) = refl
ahead_none (value r) = refl
