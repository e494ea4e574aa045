-- How many numbers of each class pass a test: `f` gives the class of each number.
use Rattle.model.proofs.Prelude.{ℕ, ◌≤◌, ◌<◌, ◌+◌, suc, zero, ◌≡◌, ◌∙◌, ap, refl, sym, ap₂, ⊎_elim, true, Bool, false, ◌&&◌, not, and-false, and-true}
use Rattle.model.proofs.Prelude.{List, [], ◌∷◌, map, leb, eqb, ltb, eqb→eq, lt→ltb, arith, le-leb, lt-leb, eqb-false}
use Rattle.model.specs.Base.{sum_of, numbers_from}
use Rattle.model.specs.Runs.{how_many_from, how_many}
use Rattle.model.proofs.BoolLaws.{T→true, true→T, le_or_lt}
use Rattle.model.proofs.RunSizeLaws.{how_many-same}
use Rattle.length_rows.proofs.HowManyLaws.{one, many-step, how_many-not}

sum-add : (a b : ℕ → ℕ) (ls : List ℕ) → sum_of (map (λ l. a l + b l) ls) ≡ sum_of (map a ls) + sum_of (map b ls)
sum-add a b [] = refl
sum-add a b (l ∷ ls) = omega (arith, sum-add a b ls)

sum_same : (a b : ℕ → ℕ) (ls : List ℕ) → ((l : ℕ) → a l ≡ b l) → sum_of (map a ls) ≡ sum_of (map b ls)
sum_same a b [] h = refl
sum_same a b (l ∷ ls) h = ap₂ (λ x y. x + y) (h l) (sum_same a b ls h)

sum-none : (ls : List ℕ) → sum_of (map (λ l. 0) ls) ≡ 0
sum-none [] = refl
sum-none (l ∷ ls) = omega (arith, sum-none ls)

-- a number is in one class
one_class : (x m least : ℕ) → sum_of (map (λ l. one (eqb x l)) (numbers_from least m)) ≡ one (leb least x && ltb x (least + m))
one_class x zero least =
    ⊎_elim
    (λ (h : least ≤ x). rw (le-leb least x h, lt-leb (suc x) (least + 0) (omega arith)) refl)
    (λ (h : x < least). rw (lt-leb least x h) refl)
    (le_or_lt least x)
one_class x (suc m) least =
    let ih : sum_of (map (λ l. one (eqb x l)) (numbers_from (suc least) m)) ≡ one (leb (suc least) x && ltb x (suc least + m)) = one_class x m (suc least) in
    ap (λ n. one (eqb x least) + n) ih ∙ go (eqb x least) refl
  where
    go : (b : Bool) → eqb x least ≡ b → one (eqb x least) + one (leb (suc least) x && ltb x (suc least + m)) ≡ one (leb least x && ltb x (least + suc m))
    go true q =
        let e : x ≡ least = eqb→eq x least (true→T (eqb x least) q) in
        rw (q, lt-leb (suc least) x (omega arith), le-leb least x (omega arith), le-leb (suc x) (least + suc m) (omega arith)) refl
    go false q =
        ⊎_elim
        (λ (h : least ≤ x).
        let n : suc least ≤ x = omega (arith, eqb-false x least q) in
        let b : suc least + m ≡ least + suc m = omega arith in
        rw (q, le-leb (suc least) x n, le-leb least x h, b) (omega arith))
        (λ (h : x < least). rw (q, lt-leb (suc least) x (omega arith), lt-leb least x h) refl)
        (le_or_lt least x)

module _ (f : ℕ → ℕ) (P : ℕ → Bool) (m : ℕ) where
  class-one : (k : ℕ) → sum_of (map (λ l. one (eqb (f k) l && P k)) (numbers_from 0 m)) ≡ one (ltb (f k) m && P k)
  class-one k = go (P k) refl
    where
      go : (b : Bool) → P k ≡ b → sum_of (map (λ l. one (eqb (f k) l && P k)) (numbers_from 0 m)) ≡ one (ltb (f k) m && P k)
      go true q =
          let z : 0 + m ≡ m = omega arith in
          sum_same (λ l. one (eqb (f k) l && P k)) (λ l. one (eqb (f k) l)) (numbers_from 0 m) (λ l. rw q (ap one (and-true (eqb (f k) l))))
          ∙ one_class (f k) m 0 ∙ rw (le-leb 0 (f k) (omega arith), z) (ap one (sym (ap (λ b. ltb (f k) m && b) q ∙ and-true (ltb (f k) m))))
      go false q =
          sum_same (λ l. one (eqb (f k) l && P k)) (λ l. 0) (numbers_from 0 m) (λ l. rw q (ap one (and-false (eqb (f k) l))))
          ∙ sum-none (numbers_from 0 m) ∙ ap one (sym (ap (λ b. ltb (f k) m && b) q ∙ and-false (ltb (f k) m)))

  class-from : (n k : ℕ) → sum_of (map (λ l. how_many_from (λ j. eqb (f j) l && P j) k n) (numbers_from 0 m)) ≡ how_many_from (λ j. ltb (f j) m && P j) k n
  unfolding how_many_from
  class-from zero k = sum-none (numbers_from 0 m)
  class-from (suc n) k =
      sum_same (λ l. how_many_from (λ j. eqb (f j) l && P j) k (suc n)) (λ l. one (eqb (f k) l && P k) + how_many_from (λ j. eqb (f j) l && P j) (suc k) n) (numbers_from 0 m)
      (λ l. many-step (λ j. eqb (f j) l && P j) k n)
      ∙ sum-add (λ l. one (eqb (f k) l && P k)) (λ l. how_many_from (λ j. eqb (f j) l && P j) (suc k) n) (numbers_from 0 m)
      ∙ ap₂ (λ a b. a + b) (class-one k) (class-from n (suc k))
      ∙ sym (many-step (λ j. ltb (f j) m && P j) k n)

  -- The numbers of the classes 0 to m - 1 add up to those in one of them
  pub how_many-classes : (n : ℕ) → sum_of (map (λ l. how_many (λ j. eqb (f j) l && P j) n) (numbers_from 0 m)) ≡ how_many (λ j. ltb (f j) m && P j) n
  unfolding how_many
  how_many-classes n = class-from n 1

pub less : (m n : ℕ) → ltb m n ≡ not (leb n m)
less m n =
    ⊎_elim
    (λ (h : n ≤ m). let a : leb n m ≡ true = le-leb n m h in lt-leb (suc m) n (omega arith) ∙ sym (ap not a))
    (λ (h : m < n). let a : leb n m ≡ false = lt-leb n m h in T→true (ltb m n) (lt→ltb m n h) ∙ sym (ap not a))
    (le_or_lt n m)

-- The classes 0 to m - 1, and the rest
pub classes-rest : (f : ℕ → ℕ) (m n : ℕ) → sum_of (map (λ l. how_many (λ k. eqb (f k) l) n) (numbers_from 0 m)) + how_many (λ k. leb m (f k)) n ≡ n
classes-rest f m n =
    let a : sum_of (map (λ l. how_many (λ k. eqb (f k) l) n) (numbers_from 0 m)) ≡ how_many (λ k. ltb (f k) m && true) n =
    sum_same (λ l. how_many (λ k. eqb (f k) l) n) (λ l. how_many (λ k. eqb (f k) l && true) n) (numbers_from 0 m)
    (λ l. how_many-same (λ k. eqb (f k) l) (λ k. eqb (f k) l && true) n (λ k u v. sym (and-true (eqb (f k) l))))
    ∙ how_many-classes f (λ k. true) m n in
    let b : how_many (λ k. ltb (f k) m && true) n ≡ how_many (λ k. not (leb m (f k))) n =
    how_many-same (λ k. ltb (f k) m && true) (λ k. not (leb m (f k))) n (λ k u v. and-true (ltb (f k) m) ∙ less (f k) m) in
    omega (arith, a, b, how_many-not (λ k. leb m (f k)) n)
