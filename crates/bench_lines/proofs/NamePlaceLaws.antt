-- Places of names in lists of names.
use Rattle.model.proofs.Prelude.{ℕ, ◌≤◌, ◌<◌, ◌+◌, suc, ◌≡◌, ◌∙◌, ap, refl, sym, subst, ⊎_elim, true, false, true≢false, List, [], ◌∷◌, ◌++◌, length}
use Rattle.model.proofs.Prelude.{T, arith, lt-ltb, le-ltb, ltb-true}
use borrow.Author.Tests.{ltb-false}
use Rattle.model.specs.Report.{same_bytes}
use Rattle.model.proofs.BoolLaws.{T→true, not→false, true→T, bool_cases}
use Rattle.model.proofs.AnswerLaws.{same_refl, same→}
use Rattle.bench_lines.specs.Text.{place, is_in}
use Rattle.bench_lines.proofs.KeyLaws.{place_here, place-later}

pub same-yes : (x y : List ℕ) → x ≡ y → same_bytes x y ≡ true
same-yes x y e = T→true (same_bytes x y) (subst (λ (w : List ℕ). T (same_bytes x w)) e (same_refl x))

pub same-no : (x y : List ℕ) → (x ≡ y → ⊥) → same_bytes x y ≡ false
same-no x y d = not→false (same_bytes x y) (λ t. d (same→ x y t))

-- a name is the first of the list, or another
module _ (x y : List ℕ) where
  pub by-same : {P : Type 0} → (x ≡ y → P) → ((x ≡ y → ⊥) → P) → P
  by-same f g =
      ⊎_elim (λ e. f (same→ x y (true→T (same_bytes x y) e))) (λ e. g (λ q. true≢false (sym (same-yes x y q) ∙ e))) (bool_cases (same_bytes x y))

pub place-first : (x y : List ℕ) (ys : List (List ℕ)) → x ≡ y → place x (y ∷ ys) ≡ 0
place-first x y ys e = place_here x y ys (same-yes x y e)

pub place-next : (x y : List ℕ) (ys : List (List ℕ)) → (x ≡ y → ⊥) → place x (y ∷ ys) ≡ suc (place x ys)
place-next x y ys d = place-later x y ys (same-no x y d)

-- a name that is in a list, or not
pub in_lt : (x : List ℕ) (xs : List (List ℕ)) → is_in x xs ≡ true → place x xs < length xs
unfolding is_in
in_lt x xs e = ltb-true (place x xs) (length xs) e

pub lt_in : (x : List ℕ) (xs : List (List ℕ)) → place x xs < length xs → is_in x xs ≡ true
unfolding is_in
lt_in x xs h = lt-ltb (place x xs) (length xs) h

pub out-le : (x : List ℕ) (xs : List (List ℕ)) → is_in x xs ≡ false → length xs ≤ place x xs
unfolding is_in
out-le x xs e = ltb-false (place x xs) (length xs) e

pub le_out : (x : List ℕ) (xs : List (List ℕ)) → length xs ≤ place x xs → is_in x xs ≡ false
unfolding is_in
le_out x xs h = le-ltb (place x xs) (length xs) h

unfoldable pub NotIn : List ℕ → List (List ℕ) → Type 0
NotIn x [] = Unit {0}
NotIn x (y ∷ ys) = (x ≡ y → ⊥) × NotIn x ys

pub not_in : (x : List ℕ) (xs : List (List ℕ)) → is_in x xs ≡ false → NotIn x xs
unfolding NotIn
not_in x [] e = tt
not_in x (y ∷ ys) e = by-same x y
    (λ q. absurd (true≢false (sym (lt_in x (y ∷ ys) (subst (λ (n : ℕ). n < suc (length ys)) (sym (place-first x y ys q)) (omega arith))) ∙ e)))
    (λ d. (d, not_in x ys (le_out x ys (omega (arith, out-le x (y ∷ ys) e, place-next x y ys d)))))

pub in_not : (x : List ℕ) (xs : List (List ℕ)) → NotIn x xs → is_in x xs ≡ false
unfolding NotIn is_in place
in_not x [] n = refl
in_not x (y ∷ ys) n = le_out x (y ∷ ys) (omega (arith, place-next x y ys n.0, out-le x ys (in_not x ys n.1)))

pub not_in_append : (x : List ℕ) (us vs : List (List ℕ)) → NotIn x us → NotIn x vs → NotIn x (us ++ vs)
unfolding NotIn
not_in_append x [] vs a b = b
not_in_append x (y ∷ ys) vs a b = (a.0, not_in_append x ys vs a.1 b)

pub not_in_left : (x : List ℕ) (us vs : List (List ℕ)) → NotIn x (us ++ vs) → NotIn x us
unfolding NotIn
not_in_left x [] vs n = tt
not_in_left x (y ∷ ys) vs n = (n.0, not_in_left x ys vs n.1)

pub not_in_right : (x : List ℕ) (us vs : List (List ℕ)) → NotIn x (us ++ vs) → NotIn x vs
unfolding NotIn
not_in_right x [] vs n = n
not_in_right x (y ∷ ys) vs n = not_in_right x ys vs n.1

-- the place in two lists, one after the other
pub place-left : (x : List ℕ) (us vs : List (List ℕ)) → place x us < length us → place x (us ++ vs) ≡ place x us
place-left x [] vs h = absurd (omega arith)
place-left x (y ∷ ys) vs h = by-same x y
    (λ q. place-first x y (ys ++ vs) q ∙ sym (place-first x y ys q))
    (λ d. place-next x y (ys ++ vs) d ∙ ap suc (place-left x ys vs (omega (arith, place-next x y ys d))) ∙ sym (place-next x y ys d))

pub place-right : (x : List ℕ) (us vs : List (List ℕ)) → length us ≤ place x us
    → place x (us ++ vs) ≡ length us + place x vs
place-right x [] vs h = omega arith
place-right x (y ∷ ys) vs h = by-same x y
    (λ q. absurd (omega (arith, place-first x y ys q)))
    (λ d. omega (arith, place-next x y (ys ++ vs) d, place-right x ys vs (omega (arith, place-next x y ys d))))

pub place-top : (x : List ℕ) (xs : List (List ℕ)) → place x xs ≤ length xs
unfolding place
place-top x [] = omega arith
place-top x (y ∷ ys) =
    by-same x y (λ q. omega (arith, place-first x y ys q)) (λ d. omega (arith, place-next x y ys d, place-top x ys))

-- lists whose names are all different
unfoldable pub Distinct : List (List ℕ) → Type 0
Distinct [] = Unit {0}
Distinct (x ∷ xs) = NotIn x xs × Distinct xs

pub distinct-insert : (x : List ℕ) (us vs : List (List ℕ)) → Distinct (us ++ vs) → NotIn x (us ++ vs)
    → Distinct (us ++ (x ∷ vs))
unfolding Distinct NotIn
distinct-insert x [] vs d n = (n, d)
distinct-insert x (y ∷ ys) vs d n = (
  not_in_append y ys (x ∷ vs) (not_in_left y ys vs d.0) ((λ e. n.0 (sym e)), not_in_right y ys vs d.0),
  distinct-insert x ys vs d.1 n.1,
)
