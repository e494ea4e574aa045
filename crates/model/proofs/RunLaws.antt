-- Runs: the runs of a set hold exactly its numbers, and a set has one list of runs.
use Rattle.model.proofs.Prelude.{ℕ, ◌≤◌, ◌<◌, ◌+◌, suc, zero, ◌≡◌, ◌∙◌, ap, refl, sym, subst, ap₂, ⊎_elim, inl, inr, ◌⊎◌, true, Bool, false}
use Rattle.model.proofs.Prelude.{List, [], ◌∷◌, ◌++◌, leb, T, eqb, leb→le, eqb→eq, le→leb, arith, eqb-false}
use Rattle.model.specs.Runs.{Separated, Run, add_number, runs_from, runs_among, in_run, in_runs, separated_runs_of}
use Rattle.model.proofs.BoolLaws.{and_left, and_right, both, and4, all4, T→true, true→T, le_or_lt, not→false, bool_cases, or_cases, or_left, or_right}

-- the tests as facts
abbrev pub In : List Run → ℕ → Type 0
In [] j = ⊥
In (r ∷ rs) j = ((r.low ≤ j) × (j ≤ r.high)) ⊎ In rs j

pub separated→ : (top least : ℕ) (rs : List Run) → T (separated_runs_of top least rs) → Separated top least rs
unfolding separated_runs_of
separated→ top least [] t = tt
separated→ top least (r ∷ rs) t =
    let q = and4 (leb least r.low) (leb r.low r.high) (leb r.high top) (separated_runs_of top (r.high + 2) rs) t in
    (leb→le _ _ q.0, leb→le _ _ q.1, leb→le _ _ q.2, separated→ top (r.high + 2) rs q.3)

pub →separated : (top least : ℕ) (rs : List Run) → Separated top least rs → T (separated_runs_of top least rs)
unfolding separated_runs_of
→separated top least [] t = tt
→separated top least (r ∷ rs) t =
    all4 (leb least r.low) (leb r.low r.high) (leb r.high top) (separated_runs_of top (r.high + 2) rs)
    (le→leb _ _ t.0) (le→leb _ _ t.1) (le→leb _ _ t.2) (→separated top (r.high + 2) rs t.3)

pub in→ : (rs : List Run) (j : ℕ) → T (in_runs rs j) → In rs j
unfolding in_runs
in→ [] j t = t
in→ (r ∷ rs) j t =
    ⊎_elim
    (λ u. inl (leb→le _ _ (and_left (leb r.low j) (leb j r.high) u), leb→le _ _ (and_right (leb r.low j) (leb j r.high) u)))
    (λ u. inr (in→ rs j u))
    (or_cases (in_run r j) (in_runs rs j) t)

pub →in : (rs : List Run) (j : ℕ) → In rs j → T (in_runs rs j)
unfolding in_runs
→in [] j t = t
→in (r ∷ rs) j (inl t) = or_left (in_run r j) (in_runs rs j) (both (leb r.low j) (leb j r.high) (le→leb _ _ t.0) (le→leb _ _ t.1))
→in (r ∷ rs) j (inr t) = or_right (in_run r j) (in_runs rs j) (→in rs j t)

-- the members of two lists in a row
pub in_left : (xs ys : List Run) (j : ℕ) → In xs j → In (xs ++ ys) j
in_left [] ys j x' = elim x' [ ]
in_left (x ∷ xs) ys j (inl t) = inl t
in_left (x ∷ xs) ys j (inr t) = inr (in_left xs ys j t)

pub in_right : (xs ys : List Run) (j : ℕ) → In ys j → In (xs ++ ys) j
in_right [] ys j t = t
in_right (x ∷ xs) ys j t = inr (in_right xs ys j t)

pub in_append : (xs ys : List Run) (j : ℕ) → In (xs ++ ys) j → In xs j ⊎ In ys j
in_append [] ys j t = inr t
in_append (x ∷ xs) ys j (inl t) = inl (inl t)
in_append (x ∷ xs) ys j (inr t) = ⊎_elim (λ u. inl (inr u)) (λ u. inr u) (in_append xs ys j t)

-- members lie between the ends
pub in_low : (top least : ℕ) (rs : List Run) (j : ℕ) → Separated top least rs → In rs j → least ≤ j
in_low top least [] j a x'' = elim x'' [ ]
in_low top least (r ∷ rs) j a (inl t) = omega arith
in_low top least (r ∷ rs) j a (inr t) = omega (arith, in_low top (r.high + 2) rs j a.3 t)

pub in_high : (top least : ℕ) (rs : List Run) (j : ℕ) → Separated top least rs → In rs j → j ≤ top
in_high top least [] j a x'' = elim x'' [ ]
in_high top least (r ∷ rs) j a (inl t) = omega arith
in_high top least (r ∷ rs) j a (inr t) = in_high top (r.high + 2) rs j a.3 t

-- A set has one list of runs
same_low : (top : ℕ) (least : ℕ) (r : Run) (rs : List Run) (q : Run) (qs : List Run) → Separated top least (r ∷ rs) → Separated top least (q ∷ qs)
    → ((j : ℕ) → In (r ∷ rs) j → In (q ∷ qs) j) → q.low ≤ r.low
same_low top least r rs q qs a b f =
    in_low top q.low (q ∷ qs) r.low (omega arith, b.1, b.2, b.3) (f r.low (inl (omega arith, a.1)))

-- a number right after a run is in no run
past : (top least : ℕ) (r : Run) (rs : List Run) (j : ℕ) → Separated top least (r ∷ rs) → r.high < j → j < r.high + 2 → In (r ∷ rs) j → ⊥
past top least r rs j a h l (inl t) = omega arith
past top least r rs j a h l (inr t) = omega (arith, in_low top (r.high + 2) rs j a.3 t)

same-high : (top least : ℕ) (r : Run) (rs : List Run) (q : Run) (qs : List Run) → Separated top least (r ∷ rs) → Separated top least (q ∷ qs)
    → q.low ≤ r.low → ((j : ℕ) → In (q ∷ qs) j → In (r ∷ rs) j) → q.high ≤ r.high
same-high top least r rs q qs a b l f =
    ⊎_elim (λ h. h)
    (λ h. absurd (past top least r rs (suc r.high) a (omega arith) (omega arith) (f (suc r.high) (inl (omega arith, h)))))
    (le_or_lt q.high r.high)

tail-in : (top least : ℕ) (r : Run) (rs qs : List Run) → Separated top least (r ∷ rs) → ((j : ℕ) → In (r ∷ rs) j → In (r ∷ qs) j)
    → (j : ℕ) → In rs j → In qs j
tail-in top least r rs qs a f j t =
    let h : r.high + 2 ≤ j = in_low top (r.high + 2) rs j a.3 t in
    ⊎_elim (λ u. absurd (omega arith)) (λ u. u) (f j (inr t))

-- Two lists of runs with the same numbers are one
pub unique : (top least : ℕ) (rs qs : List Run) → Separated top least rs → Separated top least qs
    → ((j : ℕ) → In rs j → In qs j) → ((j : ℕ) → In qs j → In rs j) → rs ≡ qs
unique top least [] [] a b f g = refl
unique top least [] (q ∷ qs) a b f g = absurd (g q.low (inl (omega arith, b.1)))
unique top least (r ∷ rs) [] a b f g = absurd (f r.low (inl (omega arith, a.1)))
unique top least (r ∷ rs) (q ∷ qs) a b f g =
    let l : r.low ≡ q.low = omega (arith, same_low top least r rs q qs a b f, same_low top least q qs r rs b a g) in
    let h : r.high ≡ q.high =
    omega (arith, same-high top least r rs q qs a b (omega arith) g, same-high top least q qs r rs b a (omega arith) f) in
    let e : r ≡ q = λ i. record { low = l i; high = h i } in
    let b' : Separated top least (r ∷ qs) = subst (λ x. Separated top least (x ∷ qs)) (sym e) b in
    let f' : (j : ℕ) → In (r ∷ rs) j → In (r ∷ qs) j = subst (λ x. (j : ℕ) → In (r ∷ rs) j → In (x ∷ qs) j) (sym e) f in
    let g' : (j : ℕ) → In (r ∷ qs) j → In (r ∷ rs) j = subst (λ x. (j : ℕ) → In (x ∷ qs) j → In (r ∷ rs) j) (sym e) g in
    ap₂ {C = List Run} (λ x xs. x ∷ xs) e
    (unique top (r.high + 2) rs qs a.3 b'.3 (tail-in top least r rs qs a f') (tail-in top least r qs rs b' g'))

-- The runs of a set. A number put before runs of higher numbers joins the first or stands alone
pub push_cases : (k : ℕ) (r : Run) (rs : List Run)
    → ((r.low ≡ suc k) × (add_number k (r ∷ rs) ≡ record { low = k; high = r.high } ∷ rs))
    ⊎ ((r.low ≡ suc k → ⊥) × (add_number k (r ∷ rs) ≡ record { low = k; high = k } ∷ r ∷ rs))
unfolding add_number
push_cases k r rs =
    ⊎_elim
    (λ (e : eqb r.low (suc k) ≡ true). inl (eqb→eq r.low (suc k) (true→T (eqb r.low (suc k)) e), rw (e, add_number)))
    (λ (e : eqb r.low (suc k) ≡ false). inr (eqb-false r.low (suc k) e, rw (e, add_number)))
    (bool_cases (eqb r.low (suc k)))

pub push_nil : (k : ℕ) → add_number k [] ≡ record { low = k; high = k } ∷ []
unfolding add_number
push_nil k = refl

push_apart : (top k : ℕ) (rs : List Run) → k ≤ top → Separated top (suc k) rs → Separated top k (add_number k rs)
push_apart top k [] l a = rw push_nil (omega arith, omega arith, l, tt)
push_apart top k (r ∷ rs) l a =
    ⊎_elim
    (λ c. rw c.1 (omega arith, omega arith, a.2, a.3))
    (λ c. rw c.1 (omega arith, omega arith, l, (omega (arith, c.0), a.1, a.2, a.3)))
    (push_cases k r rs)

push→ : (top k : ℕ) (rs : List Run) (j : ℕ) → Separated top (suc k) rs → In (add_number k rs) j → (j ≡ k) ⊎ In rs j
push→ top k [] j a t = ⊎_elim (λ u. inl (omega arith)) absurd (rw push_nil at t)
push→ top k (r ∷ rs) j a t =
    ⊎_elim
    (λ c. ⊎_elim (λ u. ⊎_elim (λ m. inl (omega arith)) (λ m. inr (inl (omega arith, u.1))) (le_or_lt j k)) (λ u. inr (inr u)) (rw c.1 at t))
    (λ c. ⊎_elim (λ u. inl (omega arith)) (λ u. inr u) (rw c.1 at t))
    (push_cases k r rs)

→push : (top k : ℕ) (rs : List Run) (j : ℕ) → Separated top (suc k) rs → (j ≡ k) ⊎ In rs j → In (add_number k rs) j
→push top k [] j a (inl e) = rw push_nil (inl (omega arith, omega arith))
→push top k [] j a (inr t) = absurd t
→push top k (r ∷ rs) j a t =
    ⊎_elim
    (λ c. rw c.1 (⊎_elim (λ e. inl (omega arith, omega arith)) (λ u. ⊎_elim (λ v. inl (omega arith, v.1)) inr u) t))
    (λ c. rw c.1 (⊎_elim (λ e. inl (omega arith, omega arith)) (λ u. inr u) t))
    (push_cases k r rs)

pub separated_weaken : (top k l : ℕ) (rs : List Run) → l ≤ k → Separated top k rs → Separated top l rs
separated_weaken top k l [] h a = tt
separated_weaken top k l (r ∷ rs) h a = (omega arith, a.1, a.2, a.3)

module _ (P : ℕ → Bool) where
  pub from-true : (k n : ℕ) → P k ≡ true → runs_from P k (suc n) ≡ add_number k (runs_from P (suc k) n)
  unfolding runs_from
  from-true k n e = rw (e, runs_from)

  pub from_false : (k n : ℕ) → P k ≡ false → runs_from P k (suc n) ≡ runs_from P (suc k) n
  unfolding runs_from
  from_false k n e = rw (e, runs_from)

  -- the runs are apart
  pub from-separated : (n k top : ℕ) → k + n ≤ suc top → Separated top k (runs_from P k n)
  unfolding runs_from
  from-separated zero k top h = tt
  from-separated (suc n) k top h =
      let ih : Separated top (suc k) (runs_from P (suc k) n) = from-separated n (suc k) top (omega arith) in
      ⊎_elim
      (λ (e : P k ≡ true). rw (from-true k n e) (push_apart top k (runs_from P (suc k) n) (omega arith) ih))
      (λ (e : P k ≡ false). rw (from_false k n e) (separated_weaken top (suc k) k (runs_from P (suc k) n) (omega arith) ih))
      (bool_cases (P k))

  -- they hold exactly the numbers that pass the test
  pub from→ : (n k j : ℕ) → In (runs_from P k n) j → (k ≤ j) × (j < k + n) × T (P j)
  unfolding runs_from
  from→ zero k j t = absurd t
  from→ (suc n) k j t =
      ⊎_elim
      (λ (e : P k ≡ true).
      ⊎_elim
      (λ (q : j ≡ k). (omega arith, omega arith, rw q (true→T (P k) e)))
      (λ u. let ih = from→ n (suc k) j u in (omega (arith, ih.0), omega (arith, ih.1), ih.2))
      (push→ (k + n) k (runs_from P (suc k) n) j (from-separated n (suc k) (k + n) (omega arith)) (rw (from-true k n e) at t)))
      (λ (e : P k ≡ false). let ih = from→ n (suc k) j (rw (from_false k n e) at t) in (omega (arith, ih.0), omega (arith, ih.1), ih.2))
      (bool_cases (P k))

  pub →from : (n k j : ℕ) → k ≤ j → j < k + n → T (P j) → In (runs_from P k n) j
  unfolding runs_from
  →from zero k j h l t = absurd (omega arith)
  →from (suc n) k j h l t =
      let a : Separated (k + n) (suc k) (runs_from P (suc k) n) = from-separated n (suc k) (k + n) (omega arith) in
      ⊎_elim
      (λ (m : j ≤ k).
      let q : j ≡ k = omega arith in
      rw (from-true k n (T→true (P k) (rw q at t))) (→push (k + n) k (runs_from P (suc k) n) j a (inl q)))
      (λ (m : k < j).
      let ih : In (runs_from P (suc k) n) j = →from n (suc k) j m (omega arith) t in
      ⊎_elim
      (λ (e : P k ≡ true). rw (from-true k n e) (→push (k + n) k (runs_from P (suc k) n) j a (inr ih)))
      (λ (e : P k ≡ false). rw (from_false k n e) ih)
      (bool_cases (P k)))
      (le_or_lt j k)

-- Tests that agree have the same runs
module _ (P Q : ℕ → Bool) where
  pub from-same : (n k : ℕ) → ((j : ℕ) → k ≤ j → j < k + n → P j ≡ Q j) → runs_from P k n ≡ runs_from Q k n
  unfolding runs_from
  from-same zero k h = refl
  from-same (suc n) k h =
      let ih = from-same n (suc k) (λ j a b. h j (omega arith) (omega arith)) in
      let q = h k (omega arith) (omega arith) in
      ⊎_elim
      (λ (e : P k ≡ true). from-true P k n e ∙ ap (add_number k) ih ∙ sym (from-true Q k n (sym q ∙ e)))
      (λ (e : P k ≡ false). from_false P k n e ∙ ih ∙ sym (from_false Q k n (sym q ∙ e)))
      (bool_cases (P k))

pub from-none : (n k : ℕ) → runs_from (λ j. false) k n ≡ []
unfolding runs_from
from-none zero k = refl
from-none (suc n) k = from-none n (suc k)

-- The same for the numbers 1 to n
module _ (P : ℕ → Bool) (n : ℕ) where
  pub runs-separated : Separated n 1 (runs_among P n)
  unfolding runs_among
  runs-separated = from-separated P n 1 n (omega arith)

  pub runs→ : (j : ℕ) → In (runs_among P n) j → (1 ≤ j) × (j ≤ n) × T (P j)
  unfolding runs_among
  runs→ j t = let q = from→ P n 1 j t in (q.0, omega (arith, q.1), q.2)

  pub →runs : (j : ℕ) → 1 ≤ j → j ≤ n → T (P j) → In (runs_among P n) j
  unfolding runs_among
  →runs j h l t = →from P n 1 j h (omega arith) t

  -- the test whether a number lies in the runs is the test of the set
  pub runs-test : (j : ℕ) → 1 ≤ j → j ≤ n → in_runs (runs_among P n) j ≡ P j
  runs-test j h l =
      ⊎_elim
      (λ (e : P j ≡ true). T→true _ (→in (runs_among P n) j (→runs j h l (true→T (P j) e))) ∙ sym e)
      (λ (e : P j ≡ false). not→false _ (λ t. subst T e (runs→ j (in→ (runs_among P n) j t)).2) ∙ sym e)
      (bool_cases (P j))

module _ (P Q : ℕ → Bool) (n : ℕ) (h : (j : ℕ) → 1 ≤ j → j ≤ n → P j ≡ Q j) where
  pub runs_same : runs_among P n ≡ runs_among Q n
  unfolding runs_among
  runs_same = from-same P Q n 1 (λ j a b. h j a (omega arith))

pub runs_none : (n : ℕ) → runs_among (λ j. false) n ≡ []
unfolding runs_among
runs_none n = from-none n 1

-- Runs that are apart are the runs of their own numbers
pub runs-of_runs : (n : ℕ) (rs : List Run) → Separated n 1 rs → runs_among (in_runs rs) n ≡ rs
runs-of_runs n rs a =
    unique n 1 (runs_among (in_runs rs) n) rs (runs-separated (in_runs rs) n) a
    (λ j t. in→ rs j (runs→ (in_runs rs) n j t).2)
    (λ j t. →runs (in_runs rs) n j (in_low n 1 rs j a t) (in_high n 1 rs j a t) (→in rs j t))

-- Runs that are apart and hold exactly the numbers of a set are the set's runs
pub runs_by : (P : ℕ → Bool) (n : ℕ) (rs : List Run) → Separated n 1 rs → ((j : ℕ) → In rs j → T (P j))
    → ((j : ℕ) → 1 ≤ j → j ≤ n → T (P j) → In rs j) → rs ≡ runs_among P n
runs_by P n rs a f g =
    unique n 1 rs (runs_among P n) a (runs-separated P n)
    (λ j t. →runs P n j (in_low n 1 rs j a t) (in_high n 1 rs j a t) (f j t))
    (λ j t. let q = runs→ P n j t in g j q.0 q.1 q.2)
