-- What the pins of a gate show, as laws on lists of Bool: one pin or more is controlling, two or more are.
use Rattle.model.proofs.Prelude.{ℕ, ◌<◌, suc, zero, ◌≡◌, ◌∙◌, ap, refl, ap₂, true, Bool, false, ◌&&◌, not, ◌||◌, Bool·beq, List, [], ◌∷◌, length}
use Rattle.model.proofs.Prelude.{get_or, T, not-suc-le-zero, le_of_suc-le-suc}
use Rattle.model.specs.Base.{all_of, any_of}
use Rattle.model.specs.Detect.{others}
use Rattle.block_words.specs.Words.{unequal, two_of}
use Rattle.block_words.proofs.TruthLaws.{unequal-false}

pub unequal-true : (v : Bool) → unequal true v ≡ not v
unequal-true true = refl
unequal-true false = refl

or_not : (a b : Bool) → (not a || not b) ≡ not (a && b)
or_not true b = refl
or_not false b = refl

-- some value is 0: not all are 1
pub any_zero : (vs : List Bool) → any_of (unequal true) vs ≡ not (all_of (λ v. v) vs)
any_zero [] = refl
any_zero (v ∷ vs) = ap₂ (λ a b. a || b) (unequal-true v) (any_zero vs) ∙ or_not v (all_of (λ v. v) vs)

pub any_one : (vs : List Bool) → any_of (unequal false) vs ≡ any_of (λ v. v) vs
any_one [] = refl
any_one (v ∷ vs) = ap₂ (λ a b. a || b) (unequal-false v) (any_one vs)

-- none differs: all are the same
all_same : (b : Bool) (vs : List Bool) → not (any_of (unequal b) vs) ≡ all_of (Bool·beq b) vs
all_same b [] = refl
all_same b (v ∷ vs) = step (Bool·beq b v) (any_of (unequal b) vs) ∙ ap (λ r. Bool·beq b v && r) (all_same b vs)
  where
    step : (e a : Bool) → not (not e || a) ≡ (e && not a)
    step true a = refl
    step false a = refl

pub two-any : (f : Bool → Bool) (vs : List Bool) → T (two_of f vs) → T (any_of f vs)
two-any f [] t = t
two-any f (v ∷ vs) t = step (f v) (any_of f vs) (two_of f vs) (two-any f vs) t
  where
    step : (d a w : Bool) → (T w → T a) → T ((a && d) || w) → T (d || a)
    step true a w i t = tt
    step false true w i t = tt
    step false false true i t = i tt
    step false false false i t = t

pub any_at : (f : Bool → Bool) (vs : List Bool) (p : ℕ) → p < length vs → T (f (get_or vs p false)) → T (any_of f vs)
any_at f [] p h t = absurd (not-suc-le-zero h)
any_at f (v ∷ vs) zero h t = step (f v) (any_of f vs) t
  where
    step : (d a : Bool) → T d → T (d || a)
    step true a t = tt
    step false a t = absurd t
any_at f (v ∷ vs) (suc p) h t = step (f v) (any_of f vs) (any_at f vs p (le_of_suc-le-suc h) t)
  where
    step : (d a : Bool) → T a → T (d || a)
    step true a t = tt
    step false a t = t

-- none is controlling, or this one alone: every other is non-controlling
pub opens : (b : Bool) (vs : List Bool) (p : ℕ) → p < length vs
    → (not (any_of (unequal b) vs) || (not (two_of (unequal b) vs) && unequal b (get_or vs p false))) ≡ others (Bool·beq b) vs p
opens b [] p h = absurd (not-suc-le-zero h)
opens b (v ∷ vs) zero h = step (unequal b v) (any_of (unequal b) vs) (two_of (unequal b) vs) (two-any (unequal b) vs) ∙ all_same b vs
  where
    step : (d a w : Bool) → (T w → T a) → (not (d || a) || (not ((a && d) || w) && d)) ≡ not a
    step true true w i = refl
    step true false true i = absurd (i tt)
    step true false false i = refl
    step false true true i = refl
    step false true false i = refl
    step false false true i = refl
    step false false false i = refl
opens b (v ∷ vs) (suc p) h =
    step (Bool·beq b v) (any_of (unequal b) vs) (two_of (unequal b) vs) (unequal b (get_or vs p false)) (any_at (unequal b) vs p (le_of_suc-le-suc h))
    ∙ ap (λ r. Bool·beq b v && r) (opens b vs p (le_of_suc-le-suc h))
  where
    step : (e a w q : Bool) → (T q → T a) → (not (not e || a) || (not ((a && not e) || w) && q)) ≡ (e && (not a || (not w && q)))
    step true true true q i = refl
    step true true false q i = refl
    step true false w q i = refl
    step false true w q i = refl
    step false false w true i = absurd (i tt)
    step false false true false i = refl
    step false false false false i = refl
