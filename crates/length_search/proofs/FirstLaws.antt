-- The first number that passes a test: in parts, with another test, and by how many pass it up to a number.
use Rattle.model.proofs.Prelude.{ℕ, ◌≤◌, ◌<◌, ◌+◌, ◌-◌, suc, zero, ◌≡◌, ◌∙◌, ap, refl, sym, ⊎_elim, ◌↔◌, true, Bool, false, arith}
use Rattle.model.specs.Netlist.{Netlist}
use Rattle.model.specs.Runs.{how_many}
use Rattle.model.proofs.BoolLaws.{bool_cases, cases}
use Rattle.model.proofs.RunSizeLaws.{how_many-same}
use Rattle.length_rows.specs.Lengths.{of_length, paths_up_to}
use Rattle.length_rows.proofs.HowManyLaws.{how_many-add, how_many-none, how_many-zero}
use Rattle.length_search.specs.Untested.{first_from}

module _ (P : ℕ → Bool) where
  pub first-true : (k n : ℕ) → P k ≡ true → first_from P k (suc n) ≡ k
  unfolding first_from
  first-true k n e = rw (e, first_from) refl

  pub first-false : (k n : ℕ) → P k ≡ false → first_from P k (suc n) ≡ first_from P (suc k) n
  unfolding first_from
  first-false k n e = rw (e, first_from) refl

  pub first-none : (n k : ℕ) → ((j : ℕ) → k ≤ j → j < k + n → P j ≡ false) → first_from P k n ≡ 0
  unfolding first_from
  first-none zero k h = refl
  first-none (suc n) k h =
      first-false k n (h k (omega arith) (omega arith)) ∙ first-none n (suc k) (λ j a b. h j (omega arith) (omega arith))

  -- it is the number that passes, with none before it that does
  pub first-is : (n k r : ℕ) → k ≤ r → r < k + n → P r ≡ true → ((j : ℕ) → k ≤ j → j < r → P j ≡ false) → first_from P k n ≡ r
  first-is zero k r a b e h = absurd (omega arith)
  first-is (suc n) k r a b e h =
      cases r k
      (λ l. let z : k ≡ r = omega arith in first-true k n (ap P z ∙ e) ∙ z)
      (λ l. first-false k n (h k (omega arith) l) ∙ first-is n (suc k) r l (omega arith) e (λ j x y. h j (omega arith) y))

  -- In two parts: the first of the first part, where it has one
  pub first-skip : (m n k : ℕ) → 1 ≤ k → first_from P k m ≡ 0 → first_from P k (m + n) ≡ first_from P (k + m) n
  first-skip zero n k s e = let a : 0 + n ≡ n = omega arith in let b : k + 0 ≡ k = omega arith in rw (a, b) refl
  first-skip (suc m) n k s e =
      let a : suc m + n ≡ suc (m + n) = omega arith in
      let b : k + suc m ≡ suc k + m = omega arith in
      ⊎_elim
      (λ (q : P k ≡ true). absurd (omega (arith, first-true k m q)))
      (λ (q : P k ≡ false).
      ap (first_from P k) a ∙ first-false k (m + n) q ∙ first-skip m n (suc k) (omega arith) (sym (first-false k m q) ∙ e) ∙ ap (λ x. first_from P x n) (sym b))
      (bool_cases (P k))

  pub first-take : (m n k : ℕ) → 1 ≤ first_from P k m → first_from P k (m + n) ≡ first_from P k m
  unfolding first_from
  first-take zero n k s = absurd (omega arith)
  first-take (suc m) n k s =
      let a : suc m + n ≡ suc (m + n) = omega arith in
      ⊎_elim
      (λ (q : P k ≡ true). ap (first_from P k) a ∙ first-true k (m + n) q ∙ sym (first-true k m q))
      (λ (q : P k ≡ false).
      ap (first_from P k) a ∙ first-false k (m + n) q ∙ first-take m n (suc k) (omega (arith, first-false k m q)) ∙ sym (first-false k m q))
      (bool_cases (P k))

-- tests that agree there have the same first number
pub first-same : (P Q : ℕ → Bool) (n k : ℕ) → ((j : ℕ) → k ≤ j → j < k + n → P j ≡ Q j) → first_from P k n ≡ first_from Q k n
unfolding first_from
first-same P Q zero k h = refl
first-same P Q (suc n) k h =
    let here : P k ≡ Q k = h k (omega arith) (omega arith) in
    let rest = first-same P Q n (suc k) (λ j a b. h j (omega arith) (omega arith)) in
    ⊎_elim
    (λ (q : P k ≡ true). first-true P k n q ∙ sym (first-true Q k n (sym here ∙ q)))
    (λ (q : P k ≡ false). first-false P k n q ∙ rest ∙ sym (first-false Q k n (sym here ∙ q)))
    (bool_cases (P k))

-- ---- by how many pass up to a number

module _ (P : ℕ → Bool) where
  between : (low high : ℕ) → low ≤ high → how_many P high ≡ how_many P low + how_many (λ j. P (j + low)) (high - low)
  between low high h = let z : high ≡ low + (high - low) = omega arith in ap (how_many P) z ∙ how_many-add P low (high - low)

  -- as many up to the one as up to the other: none in between
  pub none_between : (low high : ℕ) → low ≤ high → how_many P high ≤ how_many P low → (k : ℕ) → low < k → k ≤ high → P k ≡ false
  none_between low high h e k a b =
      let z : k - low + low ≡ k = omega arith in
      ap P (sym z) ∙ how_many-zero (λ j. P (j + low)) (high - low) (omega (arith, between low high h)) (k - low) (omega arith) (omega arith)

  -- and conversely
  pub same-many : (low high : ℕ) → low ≤ high → ((k : ℕ) → low < k → k ≤ high → P k ≡ false) → how_many P low ≡ how_many P high
  same-many low high h f =
      let none : how_many (λ j. P (j + low)) (high - low) ≡ 0 =
      how_many-same (λ j. P (j + low)) (λ j. false) (high - low) (λ j a b. f (j + low) (omega arith) (omega arith)) ∙ how_many-none (high - low) in
      omega (arith, between low high h)

  -- one more than up to the number before: it passes
  pub one_more : (k : ℕ) → how_many P k < how_many P (suc k) → P (suc k) ≡ true
  one_more k h =
      ⊎_elim
      (λ (q : P (suc k) ≡ true). q)
      (λ (q : P (suc k) ≡ false).
      let e = same-many k (suc k) (omega arith) (λ j a b. let z : j ≡ suc k = omega arith in ap P z ∙ q) in
      absurd (omega arith))
      (bool_cases (P (suc k)))

-- The paths up to two numbers are as many of a length exactly when none in between has it
pub rank_same : (N : Netlist) (l low high : ℕ) → low ≤ high
    → (paths_up_to N l low ≡ paths_up_to N l high) ↔ ((k : ℕ) → low < k → k ≤ high → of_length N l k ≡ false)
unfolding paths_up_to
rank_same N l low high h = (
  λ e. none_between (of_length N l) low high h (omega (arith, e)),
  λ f. same-many (of_length N l) low high h f,
)
