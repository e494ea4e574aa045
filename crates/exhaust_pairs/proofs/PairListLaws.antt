-- The list of all pairs: each pair of different vectors is in it, all are legal, and how many they are.
use Rattle.model.proofs.Prelude.{ℕ, ◌≤◌, ◌<◌, ◌+◌, ◌-◌, ◌*◌, suc, ◌^◌, zero, ◌≡◌, ◌∙◌, ap, refl, sym, subst, ap₂, ⊎_elim, inl, inr, ◌⊎◌, true, Bool}
use Rattle.model.proofs.Prelude.{false, ◌&&◌, List, [], ◌∷◌, ◌++◌, length, get_or, leb, T, eqb, leb→le, eqb→eq, suc-add, arith}
use Rattle.model.specs.Base.{all_of, any_of, numbers_from}
use Rattle.model.specs.Netlist.{Netlist}
use Rattle.model.specs.Read.{test_rules}
use Rattle.model.specs.Store.{max_tests, tests_taken_of, empty_store}
use Rattle.model.proofs.BoolLaws.{and_left, and_right, bool_cases, true→T, or_left, or_right, or_cases, le_or_lt}
use Rattle.model.proofs.ListLaws.{all_of_at, numbers_from-at}
use Rattle.model.proofs.AnswerLaws.{AllPass}
use Rattle.exhaust_pairs.specs.AllPairs.{pair_record, pairs_with, pairs_from, all_pairs}
use Rattle.exhaust_pairs.proofs.PairVectorLaws.{pair-legal}

pub with-equal : (a b n : ℕ) → eqb a b ≡ true → pairs_with a b (suc n) ≡ pairs_with a (suc b) n
unfolding pairs_with
with-equal a b n e = rw (e, pairs_with) refl

pub with-other : (a b n : ℕ) → eqb a b ≡ false → pairs_with a b (suc n) ≡ pair_record a b ∷ pairs_with a (suc b) n
unfolding pairs_with
with-other a b n e = rw (e, pairs_with) refl

-- one more V2
pub with-one : (n a b : ℕ) → pairs_with a b (n + 1) ≡ pairs_with a b n ++ pairs_with a (b + n) 1
unfolding pairs_with
with-one zero a b = ap (λ (k : ℕ). pairs_with a k 1) (omega arith)
with-one (suc n) a b =
    let ih = with-one n a (suc b) in
    let p : pairs_with a b (suc n + 1) ≡ pairs_with a b (suc (n + 1)) = ap (pairs_with a b) (suc-add n 1) in
    let q : pairs_with a (suc b + n) 1 ≡ pairs_with a (b + suc n) 1 = ap (λ (k : ℕ). pairs_with a k 1) (omega arith) in
    ⊎_elim
    (λ (e : eqb a b ≡ true). p ∙ with-equal a b (n + 1) e ∙ ih ∙ ap₂ (λ (x y : List (List ℕ)). x ++ y) (sym (with-equal a b n e)) q)
    (λ (e : eqb a b ≡ false).
    p ∙ with-other a b (n + 1) e ∙ ap (λ (x : List (List ℕ)). pair_record a b ∷ x) ih ∙ ap₂ (λ (x y : List (List ℕ)). x ++ y) (sym (with-other a b n e)) q)
    (bool_cases (eqb a b))

-- what passes for one of them passes for some
any_append : {A : Type 0} (f : A → Bool) (xs ys : List A) → T (any_of f xs) ⊎ T (any_of f ys) → T (any_of f (xs ++ ys))
any_append f [] ys (inl t) = absurd t
any_append f [] ys (inr t) = t
any_append f (x ∷ xs) ys t =
    ⊎_elim
    (λ u. ⊎_elim (λ v. or_left (f x) (any_of f (xs ++ ys)) v) (λ v. or_right (f x) (any_of f (xs ++ ys)) (any_append f xs ys (inl v)))
    (or_cases (f x) (any_of f xs) u))
    (λ u. or_right (f x) (any_of f (xs ++ ys)) (any_append f xs ys (inr u)))
    t

module _ (f : List ℕ → Bool) where
  any_with : (n a b j : ℕ) → b ≤ j → j < b + n → (a ≡ j → ⊥) → T (f (pair_record a j)) → T (any_of f (pairs_with a b n))
  any_with zero a b j l h d t = absurd (omega arith)
  any_with (suc n) a b j l h d t =
      ⊎_elim
      (λ (q : eqb a b ≡ true).
      let e : a ≡ b = eqb→eq a b (true→T (eqb a b) q) in
      rw (with-equal a b n q) (any_with n a (suc b) j (omega (arith, d)) (omega arith) d t))
      (λ (q : eqb a b ≡ false).
      rw (with-other a b n q)
      (⊎_elim
      (λ (m : j ≤ b).
      let e : j ≡ b = omega arith in
      or_left (f (pair_record a b)) (any_of f (pairs_with a (suc b) n)) (subst (λ k. T (f (pair_record a k))) e t))
      (λ (m : b < j). or_right (f (pair_record a b)) (any_of f (pairs_with a (suc b) n)) (any_with n a (suc b) j m (omega arith) d t))
      (le_or_lt j b)))
      (bool_cases (eqb a b))

  any_from : (n m a i j : ℕ) → a ≤ i → i < a + n → j < m → (i ≡ j → ⊥) → T (f (pair_record i j)) → T (any_of f (pairs_from m a n))
  unfolding pairs_from
  any_from zero m a i j l h k d t = absurd (omega arith)
  any_from (suc n) m a i j l h k d t =
      any_append f (pairs_with a 0 m) (pairs_from m (suc a) n)
      (⊎_elim
      (λ (o : i ≤ a).
      let e : i ≡ a = omega arith in
      inl (any_with m a 0 j (omega arith) (omega arith) (λ q. d (e ∙ q)) (subst (λ x. T (f (pair_record x j))) e t)))
      (λ (o : a < i). inr (any_from n m (suc a) i j o (omega arith) k d t))
      (le_or_lt i a))

  pub any_pair : (w i j : ℕ) → i < 2 ^ w → j < 2 ^ w → (i ≡ j → ⊥) → T (f (pair_record i j)) → T (any_of f (all_pairs w))
  unfolding all_pairs
  any_pair w i j h k d t = any_from (2 ^ w) (2 ^ w) 0 i j (omega arith) (omega arith) k d t

-- All are legal
abbrev pub AllLegal : Netlist → List (List ℕ) → Type 0
AllLegal N [] = Unit {0}
AllLegal N (r ∷ rs) = AllPass (test_rules N r) × AllLegal N rs

legal-both : (N : Netlist) (xs ys : List (List ℕ)) → AllLegal N xs → AllLegal N ys → AllLegal N (xs ++ ys)
legal-both N [] ys p q = q
legal-both N (x ∷ xs) ys p q = (p.0, legal-both N xs ys p.1 q)

-- one of legal records that passes a test
pub record LegalOne (N : Netlist) (f : List ℕ → Bool) : Type 0 where
  pub rec : List ℕ
  pub passes : AllPass (test_rules N rec)
  pub is : T (f rec)

pub legal-one : (N : Netlist) (f : List ℕ → Bool) (rs : List (List ℕ)) → AllLegal N rs → T (any_of f rs) → LegalOne N f
legal-one N f [] p t = absurd t
legal-one N f (r ∷ rs) p t =
    ⊎_elim (λ u. record { rec = r; passes = p.0; is = u }) (λ u. legal-one N f rs p.1 u) (or_cases (f r) (any_of f rs) t)

module _ (N : Netlist) (low : 1 ≤ N.inputs) (high : N.inputs ≤ 6) where
  pub legal-with : (n a b : ℕ) → a < 2 ^ N.inputs → b + n ≤ 2 ^ N.inputs → AllLegal N (pairs_with a b n)
  unfolding pairs_with
  legal-with zero a b h l = tt
  legal-with (suc n) a b h l =
      let ih = legal-with n a (suc b) h (omega arith) in
      ⊎_elim
      (λ (q : eqb a b ≡ true). rw (with-equal a b n q) ih)
      (λ (q : eqb a b ≡ false). rw (with-other a b n q) (pair-legal N low high a b h (omega arith) q, ih))
      (bool_cases (eqb a b))

  legal-from : (n a : ℕ) → a + n ≤ 2 ^ N.inputs → AllLegal N (pairs_from (2 ^ N.inputs) a n)
  unfolding pairs_from
  legal-from zero a h = tt
  legal-from (suc n) a h =
      legal-both N (pairs_with a 0 (2 ^ N.inputs)) (pairs_from (2 ^ N.inputs) (suc a) n)
      (legal-with (2 ^ N.inputs) a 0 (omega arith) (omega arith)) (legal-from n (suc a) (omega arith))

  pub all-legal : AllLegal N (all_pairs N.inputs)
  unfolding all_pairs
  all-legal = legal-from (2 ^ N.inputs) 0 (omega arith)

-- How many
abbrev right_many : ℕ → Bool
right_many i = eqb (length (all_pairs i)) (2 ^ i * (2 ^ i - 1)) && leb (length (all_pairs i)) 4032

pairs-right : T (all_of right_many (numbers_from 1 6))
unfolding all_pairs pairs_from pairs_with
pairs-right = tt

module _ (i : ℕ) (low : 1 ≤ i) (high : i ≤ 6) where
  pairs-at : T (right_many i)
  pairs-at =
      let p : get_or (numbers_from 1 6) (i - 1) 0 ≡ i = numbers_from-at 6 1 (i - 1) (omega arith) ∙ omega arith in
      subst (λ k. T (right_many k)) p (all_of_at right_many (numbers_from 1 6) 0 pairs-right (i - 1) (omega arith))

  pub pairs-many : length (all_pairs i) ≡ 2 ^ i * (2 ^ i - 1)
  pairs-many = eqb→eq _ _ (and_left (eqb (length (all_pairs i)) (2 ^ i * (2 ^ i - 1))) (leb (length (all_pairs i)) 4032) pairs-at)

  pub pairs-most : length (all_pairs i) ≤ 4032
  pairs-most = leb→le (length (all_pairs i)) 4032 (and_right (eqb (length (all_pairs i)) (2 ^ i * (2 ^ i - 1))) (leb (length (all_pairs i)) 4032) pairs-at)

  pub few-pairs : tests_taken_of empty_store + length (all_pairs i) ≤ max_tests
  few-pairs = omega (arith, pairs-most)
