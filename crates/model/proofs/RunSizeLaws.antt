-- How many numbers the runs of a set hold, and how many runs there can be.
use Rattle.model.proofs.Prelude.{ℕ, ◌≤◌, ◌<◌, ◌+◌, ◌-◌, suc, zero, ◌≡◌, ◌∙◌, ap, refl, sym, ⊎_elim, true, Bool, false, ◌&&◌, not, ◌||◌, List}
use Rattle.model.proofs.Prelude.{[], ◌∷◌, length, arith}
use Rattle.model.specs.Runs.{Separated, Run, add_number, runs_from, runs_among, size, how_many_from, how_many}
use Rattle.model.proofs.BoolLaws.{bool_cases}
use Rattle.model.proofs.RunLaws.{push_cases, push_nil, from-true, from_false, from-separated, runs-separated}

size-push : (top k : ℕ) (rs : List Run) → Separated top (suc k) rs → size (add_number k rs) ≡ suc (size rs)
unfolding size
size-push top k [] a = rw push_nil (omega arith)
size-push top k (r ∷ rs) a = ⊎_elim (λ c. rw c.1 (omega arith)) (λ c. rw c.1 (omega arith)) (push_cases k r rs)

module _ (P : ℕ → Bool) where
  pub many-true : (k n : ℕ) → P k ≡ true → how_many_from P k (suc n) ≡ suc (how_many_from P (suc k) n)
  unfolding how_many_from
  many-true k n e = rw (e, how_many_from)

  pub many-false : (k n : ℕ) → P k ≡ false → how_many_from P k (suc n) ≡ how_many_from P (suc k) n
  unfolding how_many_from
  many-false k n e = rw (e, how_many_from)

  -- the runs of a set are as large as the set
  pub size-from : (n k : ℕ) → size (runs_from P k n) ≡ how_many_from P k n
  unfolding runs_from how_many_from size
  size-from zero k = refl
  size-from (suc n) k =
      ⊎_elim
      (λ (e : P k ≡ true).
      rw (from-true P k n e, many-true k n e)
      (size-push (k + n) k (runs_from P (suc k) n) (from-separated P n (suc k) (k + n) (omega arith)) ∙ ap suc (size-from n (suc k))))
      (λ (e : P k ≡ false). rw (from_false P k n e, many-false k n e) (size-from n (suc k)))
      (bool_cases (P k))

  pub runs-size : (n : ℕ) → size (runs_among P n) ≡ how_many P n
  unfolding runs_among how_many
  runs-size n = size-from n 1

-- Tests that agree hold for as many numbers
module _ (P Q : ℕ → Bool) where
  pub many-same : (n k : ℕ) → ((j : ℕ) → k ≤ j → j < k + n → P j ≡ Q j) → how_many_from P k n ≡ how_many_from Q k n
  unfolding how_many_from
  many-same zero k h = refl
  many-same (suc n) k h =
      let ih = many-same n (suc k) (λ j a b. h j (omega arith) (omega arith)) in
      let q = h k (omega arith) (omega arith) in
      ⊎_elim
      (λ (e : P k ≡ true). many-true P k n e ∙ ap suc ih ∙ sym (many-true Q k n (sym q ∙ e)))
      (λ (e : P k ≡ false). many-false P k n e ∙ ih ∙ sym (many-false Q k n (sym q ∙ e)))
      (bool_cases (P k))

  pub how_many-same : (n : ℕ) → ((j : ℕ) → 1 ≤ j → j ≤ n → P j ≡ Q j) → how_many P n ≡ how_many Q n
  unfolding how_many
  how_many-same n h = many-same n 1 (λ j a b. h j a (omega arith))

-- What is held after a test: what was held, and what is new
many-or : (A D : ℕ → Bool) (n k : ℕ)
    → how_many_from (λ j. A j || D j) k n ≡ how_many_from D k n + how_many_from (λ j. A j && not (D j)) k n
unfolding how_many_from
many-or A D zero k = refl
many-or A D (suc n) k = go (many-or A D n (suc k)) (A k) (D k) refl refl
  where
    go : how_many_from (λ j. A j || D j) (suc k) n ≡ how_many_from D (suc k) n + how_many_from (λ j. A j && not (D j)) (suc k) n
        → (a d : Bool) → A k ≡ a → D k ≡ d
        → how_many_from (λ j. A j || D j) k (suc n) ≡ how_many_from D k (suc n) + how_many_from (λ j. A j && not (D j)) k (suc n)
    go ih true true p q = rw (p, q, how_many_from) (omega (arith, ih))
    go ih true false p q = rw (p, q, how_many_from) (omega (arith, ih))
    go ih false true p q = rw (p, q, how_many_from) (omega (arith, ih))
    go ih false false p q = rw (p, q, how_many_from) ih

pub how_many-or : (A D : ℕ → Bool) (n : ℕ) → how_many (λ j. A j || D j) n ≡ how_many D n + how_many (λ j. A j && not (D j)) n
unfolding how_many
how_many-or A D n = many-or A D n 1

-- Bounds on runs that are apart: at most as many as their numbers, and as the gaps between them and one more
size-bounds : (top least : ℕ) (rs : List Run) → Separated top least rs → (length rs ≤ size rs) × (length rs + size rs ≤ suc (suc top) - least)
unfolding size
size-bounds top least [] a = omega arith
size-bounds top least (r ∷ rs) a = let ih = size-bounds top (r.high + 2) rs a.3 in omega (arith, ih.0, ih.1)

pub few-runs : (P : ℕ → Bool) (n : ℕ) → (length (runs_among P n) ≤ how_many P n) × (length (runs_among P n) + how_many P n ≤ suc n)
few-runs P n = let b = size-bounds n 1 (runs_among P n) (runs-separated P n) in omega (arith, b.0, b.1, runs-size P n)
