-- Laws of the first and of the last run that passes a test.
use Rattle.model.proofs.Prelude.{ℕ, ◌<◌, ◌≡◌, ◌∙◌, ap, refl, sym, subst, ⊎_elim, true, Bool, false, List, [], ◌∷◌, ◌++◌, arith, lt-leb}
use Rattle.model.specs.Runs.{Run}
use Rattle.model.proofs.BoolLaws.{bool_cases}
use Rattle.tree_words.specs.Calls.{Found, none, found, first_run_of, or_else}
use Rattle.tree_descent.specs.Descent.{last_run, reaches, begins}
use Rattle.tree_words.proofs.KeepLaws.{Within}

module _ (test : Run → Bool) where
  pub first-nil : first_run_of test [] ≡ none
  unfolding first_run_of
  first-nil = refl

  pub last-nil : last_run test [] ≡ none
  unfolding last_run
  last-nil = refl

  module _ (r : Run) (rs : List Run) where
    pub first-in : test r ≡ true → first_run_of test (r ∷ rs) ≡ found r
    unfolding first_run_of
    first-in e = rw (e, first_run_of) refl

    pub first_out : test r ≡ false → first_run_of test (r ∷ rs) ≡ first_run_of test rs
    unfolding first_run_of
    first_out e = rw (e, first_run_of) refl

    pub last-in : test r ≡ true → last_run test (r ∷ rs) ≡ or_else (last_run test rs) (found r)
    unfolding last_run
    last-in e = rw (e, last_run) refl

    pub last_out : test r ≡ false → last_run test (r ∷ rs) ≡ last_run test rs
    unfolding last_run
    last_out e = rw (e, last_run) refl

  pub first-left : (s : Run) (xs ys : List Run) → first_run_of test xs ≡ found s → first_run_of test (xs ++ ys) ≡ found s
  unfolding first_run_of
  first-left s [] ys e = absurd (clash e)
    where
      clash : none ≡ found s → ⊥
      clash p = subst (λ (f : Found). Is f) p tt
        where
          Is : Found → Type 0
          Is none = Unit {0}
          Is (found r) = ⊥
  first-left s (x ∷ xs) ys e =
      ⊎_elim
      (λ (q : test x ≡ true). first-in x (xs ++ ys) q ∙ sym (first-in x xs q) ∙ e)
      (λ (q : test x ≡ false). first_out x (xs ++ ys) q ∙ first-left s xs ys (sym (first_out x xs q) ∙ e))
      (bool_cases (test x))

  pub first-right : (xs ys : List Run) → first_run_of test xs ≡ none → first_run_of test (xs ++ ys) ≡ first_run_of test ys
  first-right [] ys e = refl
  first-right (x ∷ xs) ys e =
      ⊎_elim
      (λ (q : test x ≡ true). absurd (clash x (sym (first-in x xs q) ∙ e)))
      (λ (q : test x ≡ false). first_out x (xs ++ ys) q ∙ first-right xs ys (sym (first_out x xs q) ∙ e))
      (bool_cases (test x))
    where
      clash : (s : Run) → found s ≡ none → ⊥
      clash s p = subst (λ (f : Found). Is f) p tt
        where
          Is : Found → Type 0
          Is none = ⊥
          Is (found r) = Unit {0}

  or_none : (f : Found) → or_else f none ≡ f
  or_none none = refl
  or_none (found r) = refl

  or_or : (f g k : Found) → or_else (or_else f g) k ≡ or_else f (or_else g k)
  or_or none g k = refl
  or_or (found r) g k = refl

  pub last-append : (xs ys : List Run) → last_run test (xs ++ ys) ≡ or_else (last_run test ys) (last_run test xs)
  last-append [] ys = sym (ap (or_else (last_run test ys)) last-nil ∙ or_none (last_run test ys))
  last-append (x ∷ xs) ys =
      ⊎_elim
      (λ (q : test x ≡ true).
      last-in x (xs ++ ys) q ∙ ap (λ (f : Found). or_else f (found x)) (last-append xs ys) ∙ or_or (last_run test ys) (last_run test xs) (found x)
      ∙ ap (or_else (last_run test ys)) (sym (last-in x xs q)))
      (λ (q : test x ≡ false). last_out x (xs ++ ys) q ∙ last-append xs ys ∙ ap (or_else (last_run test ys)) (sym (last_out x xs q)))
      (bool_cases (test x))

  pub last-right : (s : Run) (xs ys : List Run) → last_run test ys ≡ found s → last_run test (xs ++ ys) ≡ found s
  last-right s xs ys e = last-append xs ys ∙ ap (λ (f : Found). or_else f (last_run test xs)) e

  pub last-left : (xs ys : List Run) → last_run test ys ≡ none → last_run test (xs ++ ys) ≡ last_run test xs
  last-left xs ys e = last-append xs ys ∙ ap (λ (f : Found). or_else f (last_run test xs)) e

pub reach_no : (x lo hi : ℕ) (xs : List Run) → Within lo hi xs → hi < x → first_run_of (reaches x) xs ≡ none
reach_no x lo hi [] w q = first-nil (reaches x)
reach_no x lo hi (r ∷ xs) w q = first_out (reaches x) r xs (lt-leb x r.high (omega (arith, w.2))) ∙ reach_no x lo hi xs w.3 q

pub begin_no : (x lo hi : ℕ) (xs : List Run) → Within lo hi xs → x < lo → last_run (begins x) xs ≡ none
begin_no x lo hi [] w q = last-nil (begins x)
begin_no x lo hi (r ∷ xs) w q = last_out (begins x) r xs (lt-leb r.low x (omega (arith, w.0))) ∙ begin_no x lo hi xs w.3 q
