-- How many numbers pass a test: in parts, together with those that fail it, and with a second test.
use Rattle.model.proofs.Prelude.{ℕ, ◌≤◌, ◌<◌, ◌+◌, suc, zero, ◌≡◌, ◌∙◌, ap, refl, sym, ap₂, ⊎_elim, true, Bool, false, ◌&&◌, not, List, length, get_or}
use Rattle.model.proofs.Prelude.{arith}
use Rattle.model.specs.Base.{sum_of}
use Rattle.model.specs.Path.{counts_before}
use Rattle.model.specs.Runs.{how_many_from, how_many}
use Rattle.model.proofs.BoolLaws.{bool_cases, le_or_lt}
use Rattle.model.proofs.NumberLaws.{counts_before-suc, counts_before-all}
use Rattle.model.proofs.RunSizeLaws.{many-true, many-false}

-- one number as a count
abbrev pub one : Bool → ℕ
one true = 1
one false = 0

pub many-step : (P : ℕ → Bool) (k n : ℕ) → how_many_from P k (suc n) ≡ one (P k) + how_many_from P (suc k) n
many-step P k n =
    ⊎_elim
    (λ (q : P k ≡ true). many-true P k n q ∙ rw q (omega arith))
    (λ (q : P k ≡ false). many-false P k n q ∙ rw q (omega arith))
    (bool_cases (P k))

-- In two parts
many-split : (P : ℕ → Bool) (m n k : ℕ) → how_many_from P k (m + n) ≡ how_many_from P k m + how_many_from P (k + m) n
unfolding how_many_from
many-split P zero n k = let a : 0 + n ≡ n = omega arith in let b : k + 0 ≡ k = omega arith in rw (a, b) (omega arith)
many-split P (suc m) n k =
    let a : suc m + n ≡ suc (m + n) = omega arith in
    let b : k + suc m ≡ suc k + m = omega arith in
    rw (a, b) (omega (arith, many-step P k (m + n), many-step P k m, many-split P m n (suc k)))

many-shift : (P : ℕ → Bool) (m n k : ℕ) → how_many_from P (k + m) n ≡ how_many_from (λ j. P (j + m)) k n
unfolding how_many_from
many-shift P m zero k = refl
many-shift P m (suc n) k =
    let b : suc (k + m) ≡ suc k + m = omega arith in
    many-step P (k + m) n ∙ ap (λ x. one (P (k + m)) + how_many_from P x n) b ∙ ap (λ x. one (P (k + m)) + x) (many-shift P m n (suc k))
    ∙ sym (many-step (λ j. P (j + m)) k n)

pub how_many-add : (P : ℕ → Bool) (m n : ℕ) → how_many P (m + n) ≡ how_many P m + how_many (λ j. P (j + m)) n
unfolding how_many
how_many-add P m n = many-split P m n 1 ∙ ap (λ x. how_many_from P 1 m + x) (many-shift P m n 1)

pub how_many-none : (n : ℕ) → how_many (λ j. false) n ≡ 0
unfolding how_many how_many_from
how_many-none n = go n 1
  where
    go : (n k : ℕ) → how_many_from (λ j. false) k n ≡ 0
    go zero k = refl
    go (suc n) k = many-step (λ j. false) k n ∙ omega (arith, go n (suc k))

pub how_many-all : (n : ℕ) → how_many (λ j. true) n ≡ n
unfolding how_many how_many_from
how_many-all n = go n 1
  where
    go : (n k : ℕ) → how_many_from (λ j. true) k n ≡ n
    go zero k = refl
    go (suc n) k = many-step (λ j. true) k n ∙ omega (arith, go n (suc k))

-- In the parts of a list of counts: `vs` are the numbers that pass in each
module _ (P : ℕ → Bool) (cs vs : List ℕ) (l : length vs ≡ length cs)
    (h : (q : ℕ) → q < length cs → how_many (λ r. P (r + counts_before q cs)) (get_or cs q 0) ≡ get_or vs q 0) where
  pub how_many-before : (p : ℕ) → p ≤ length cs → how_many P (counts_before p cs) ≡ counts_before p vs
  unfolding how_many how_many_from
  how_many-before zero m = refl
  how_many-before (suc p) m =
      ap (how_many P) (counts_before-suc cs p (omega arith))
      ∙ how_many-add P (counts_before p cs) (get_or cs p 0)
      ∙ ap₂ (λ a b. a + b) (how_many-before p (omega arith)) (h p (omega arith))
      ∙ sym (counts_before-suc vs p (omega arith))

  pub how_many-parts : how_many P (sum_of cs) ≡ sum_of vs
  how_many-parts =
      ap (how_many P) (sym (counts_before-all cs)) ∙ how_many-before (length cs) (omega arith) ∙ ap (λ n. counts_before n vs) (sym l) ∙ counts_before-all vs

-- The numbers that pass and those that don't
not_from : (P : ℕ → Bool) (n k : ℕ) → how_many_from P k n + how_many_from (λ j. not (P j)) k n ≡ n
unfolding how_many_from
not_from P zero k = refl
not_from P (suc n) k =
    let ih = not_from P n (suc k) in
    ⊎_elim
    (λ (q : P k ≡ true). let r : not (P k) ≡ false = ap not q in omega (arith, ih, many-true P k n q, many-false (λ j. not (P j)) k n r))
    (λ (q : P k ≡ false). let r : not (P k) ≡ true = ap not q in omega (arith, ih, many-false P k n q, many-true (λ j. not (P j)) k n r))
    (bool_cases (P k))

pub how_many-not : (P : ℕ → Bool) (n : ℕ) → how_many P n + how_many (λ j. not (P j)) n ≡ n
unfolding how_many
how_many-not P n = not_from P n 1

pub how_many-most : (P : ℕ → Bool) (n : ℕ) → how_many P n ≤ n
how_many-most P n = omega (arith, how_many-not P n)

zero_from : (P : ℕ → Bool) (n k : ℕ) → how_many_from P k n ≡ 0 → (j : ℕ) → k ≤ j → j < k + n → P j ≡ false
zero_from P zero k h j a b = absurd (omega arith)
zero_from P (suc n) k h j a b =
    let s = many-step P k n in
    ⊎_elim
    (λ (q : P k ≡ true). absurd (omega (arith, many-true P k n q)))
    (λ (q : P k ≡ false).
    ⊎_elim
    (λ (l : j ≤ k). let e : j ≡ k = omega arith in rw e q)
    (λ (l : k < j). zero_from P n (suc k) (omega (arith, many-false P k n q)) j l (omega arith))
    (le_or_lt j k))
    (bool_cases (P k))

pub how_many-zero : (P : ℕ → Bool) (n : ℕ) → how_many P n ≡ 0 → (j : ℕ) → 1 ≤ j → j ≤ n → P j ≡ false
unfolding how_many
how_many-zero P n h j a b = zero_from P n 1 h j a (omega arith)

-- Numbers that pass a second test as well
few-from : (P Q : ℕ → Bool) (n k : ℕ) → how_many_from (λ j. P j && Q j) k n ≤ how_many_from P k n
unfolding how_many_from
few-from P Q zero k = omega arith
few-from P Q (suc n) k =
    omega (arith, few-from P Q n (suc k), many-step P k n, many-step (λ j. P j && Q j) k n, fewer (P k) (Q k))
  where
    fewer : (p q : Bool) → one (p && q) ≤ one p
    fewer true true = omega arith
    fewer true false = omega arith
    fewer false q = omega arith

pub how_many-fewer : (P Q : ℕ → Bool) (n : ℕ) → how_many (λ j. P j && Q j) n ≤ how_many P n
unfolding how_many
how_many-fewer P Q n = few-from P Q n 1
