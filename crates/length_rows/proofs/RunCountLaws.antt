-- How many numbers in runs pass a test: run by run, from the numbers that pass up to the two ends of a run.
use Rattle.model.proofs.Prelude.{ℕ, ◌≤◌, ◌<◌, ◌+◌, ◌-◌, suc, ◌≡◌, ◌∙◌, ap, refl, true, Bool, false, ◌&&◌, not, ◌||◌, and-false, and-true, List, []}
use Rattle.model.proofs.Prelude.{◌∷◌, leb, T, leb→le, le→leb, arith}
use Rattle.model.specs.Runs.{Run, Separated, in_run, in_runs, how_many}
use Rattle.model.proofs.BoolLaws.{T→true, not→false, and_left, and_right, both}
use Rattle.model.proofs.RunLaws.{in→, in_low}
use Rattle.model.proofs.RunSizeLaws.{how_many-same, how_many-or}
use Rattle.length_rows.proofs.HowManyLaws.{how_many-add, how_many-none}

inside : (r : Run) (j : ℕ) → r.low ≤ j → j ≤ r.high → in_run r j ≡ true
inside r j a b = T→true (in_run r j) (both (leb r.low j) (leb j r.high) (le→leb r.low j a) (le→leb j r.high b))

below : (r : Run) (j : ℕ) → j < r.low → in_run r j ≡ false
below r j h = not→false (in_run r j) (λ t. let a = leb→le r.low j (and_left (leb r.low j) (leb j r.high) t) in omega arith)

above : (r : Run) (j : ℕ) → r.high < j → in_run r j ≡ false
above r j h = not→false (in_run r j) (λ t. let a = leb→le j r.high (and_right (leb r.low j) (leb j r.high) t) in omega arith)

module _ (P : ℕ → Bool) where
  -- more numbers, no fewer that pass
  pub how_many-grows : {m n : ℕ} → m ≤ n → how_many P m ≤ how_many P n
  how_many-grows {m} {n} h =
      let whole : how_many P n ≡ how_many P (m + (n - m)) = ap (how_many P) (omega arith) in
      omega (arith, whole, how_many-add P m (n - m))

  one-run : (r : Run) (n : ℕ) → 1 ≤ r.low → r.low ≤ r.high → r.high ≤ n → how_many (λ k. P k && in_run r k) n ≡ how_many P r.high - how_many P (r.low - 1)
  one-run r n x y z =
      let a : ℕ = r.low - 1 in
      let b : ℕ = suc r.high - r.low in
      let c : ℕ = n - r.high in
      let Q : ℕ → Bool = λ k. P k && in_run r k in
      let n-is : n ≡ (a + b) + c = omega arith in
      let high_is : r.high ≡ a + b = omega arith in
      let before : how_many Q a ≡ 0 =
      how_many-same Q (λ k. false) a (λ j l h. ap (λ t. P j && t) (below r j (omega arith)) ∙ and-false (P j)) ∙ how_many-none a in
      let here : how_many (λ j. Q (j + a)) b ≡ how_many (λ j. P (j + a)) b =
      how_many-same (λ j. Q (j + a)) (λ j. P (j + a)) b
      (λ j l h. ap (λ t. P (j + a) && t) (inside r (j + a) (omega arith) (omega arith)) ∙ and-true (P (j + a))) in
      let after : how_many (λ j. Q (j + (a + b))) c ≡ 0 =
      how_many-same (λ j. Q (j + (a + b))) (λ j. false) c
      (λ j l h. ap (λ t. P (j + (a + b)) && t) (above r (j + (a + b)) (omega arith)) ∙ and-false (P (j + (a + b)))) ∙ how_many-none c in
      let all : how_many Q n ≡ how_many Q ((a + b) + c) = ap (how_many Q) n-is in
      let most : how_many P r.high ≡ how_many P (a + b) = ap (how_many P) high_is in
      omega (arith, all, most, how_many-add Q (a + b) c, how_many-add Q a b, how_many-add P a b, before, here, after)

  pub in_no-runs : (n : ℕ) → how_many (λ k. P k && in_runs [] k) n ≡ 0
  unfolding in_runs
  in_no-runs n = how_many-same (λ k. P k && false) (λ k. false) n (λ j l h. and-false (P j)) ∙ how_many-none n

  -- the first of separated runs, and the others
  pub in_first-run : {n least : ℕ} (r : Run) (rs : List Run) → 1 ≤ least → Separated n least (r ∷ rs)
      → how_many (λ k. P k && in_runs (r ∷ rs) k) n ≡ how_many P r.high - how_many P (r.low - 1) + how_many (λ k. P k && in_runs rs k) n
  unfolding in_runs
  in_first-run {n} {least} r rs x a =
      let A : ℕ → Bool = λ k. P k && in_run r k in
      let D : ℕ → Bool = λ k. P k && in_runs rs k in
      let split : how_many (λ k. P k && in_runs (r ∷ rs) k) n ≡ how_many (λ k. A k || D k) n =
      how_many-same (λ k. P k && in_runs (r ∷ rs) k) (λ k. A k || D k) n (λ j l h. and_or (P j) (in_run r j) (in_runs rs j)) in
      let only : how_many (λ k. A k && not (D k)) n ≡ how_many A n =
      how_many-same (λ k. A k && not (D k)) A n
      (λ j l h. apart (P j) (in_run r j) (in_runs rs j)
      (λ t u.
      let high = leb→le j r.high (and_right (leb r.low j) (leb j r.high) t) in
      let low = in_low n (r.high + 2) rs j a.3 (in→ rs j u) in
      omega arith)) in
      omega (arith, one-run r n (omega arith) a.1 a.2, split, only, how_many-or A D n)
    where
      and_or : (p x y : Bool) → p && (x || y) ≡ (p && x) || (p && y)
      and_or true x y = refl
      and_or false x y = refl

      apart : (p x y : Bool) → (T x → T y → ⊥) → (p && x) && not (p && y) ≡ p && x
      apart true true true h = absurd (h tt tt)
      apart true true false h = refl
      apart true false y h = refl
      apart false x y h = refl
