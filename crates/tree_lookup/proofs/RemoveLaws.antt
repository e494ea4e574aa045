-- The runs kept below and above a run that is stored are the runs of the numbers held without those of the run; and how many runs are kept.
use Rattle.model.proofs.Prelude.{ℕ, ◌≤◌, ◌<◌, ◌+◌, ◌-◌, ◌^◌, ◌≡◌, ◌∙◌, ap, sym, subst, ap₂, ⊎_elim, inl, inr, ◌⊎◌, true, Bool, false, ◌&&◌, not, List}
use Rattle.model.proofs.Prelude.{[], ◌∷◌, ◌++◌, length, length-append, leb, T, eqb, leb→le, eqb→eq, le→leb, arith, le-leb, lt-leb}
use Rattle.model.specs.Runs.{Run, Separated, in_run, in_runs}
use Rattle.model.proofs.BoolLaws.{le_or_lt, and_left, and_right, both, or_cases, T→true, true→T, false→not, not→false}
use Rattle.model.proofs.RunLaws.{In, in→, →in, in_low, runs_by, separated_weaken}
use Rattle.tree_words.specs.Calls.{Found, none, found, first_run_of, stored, same_run, runs_with, runs_without, run_of}
use Rattle.tree_words.specs.Nodes.{Sep}
use Rattle.tree_words.specs.KeptRuns.{keep_below, keep_above}
use Rattle.tree_descent.specs.Descent.{reaches}
use Rattle.tree_lookup.specs.Lookup.{removed, join_low, join_high}
use Rattle.tree_words.proofs.KeepLaws.{below_in, below_out, below-nil, above_in, above-out, above-nil}
use Rattle.tree_descent.proofs.FoundLaws.{first-nil, first-in, first_out}
use Rattle.tree_lookup.proofs.MergedEndLaws.{below_none}
use Rattle.tree_lookup.proofs.MergeLaws.{merged-with}

stored-cases : (low high : ℕ) (r : Run) (rs : List Run) → T (stored (r ∷ rs) (run_of low high)) → ((low ≡ r.low) × (high ≡ r.high)) ⊎ T (stored rs (run_of low high))
unfolding stored
stored-cases low high r rs t =
    ⊎_elim
    (λ (u : T (same_run (run_of low high) r)). inl (
      eqb→eq low r.low (and_left (eqb low r.low) (eqb high r.high) u),
      eqb→eq high r.high
          (and_right (eqb low r.low) (eqb high r.high) u),
    ))
    (λ (u : T (stored rs (run_of low high))). inr u)
    (or_cases (same_run (run_of low high) r) (stored rs (run_of low high)) t)

stored-nil : (x : Run) → T (stored [] x) → ⊥
unfolding stored
stored-nil x t = t

pub stored-none : (rs : List Run) (x : Run) → rs ≡ [] → stored rs x ≡ true → ⊥
stored-none rs x e h = stored-nil x (true→T (stored [] x) (ap (λ (l : List Run). stored l x) (sym e) ∙ h))

pub stored_low : (low high n least : ℕ) (rs : List Run) → Separated n least rs → T (stored rs (run_of low high)) → (least ≤ low) × (low ≤ high) × (high ≤ n)
stored_low low high n least [] s t = absurd (stored-nil (run_of low high) t)
stored_low low high n least (r ∷ rs) s t =
    ⊎_elim
    (λ (u : (low ≡ r.low) × (high ≡ r.high)). (omega (arith, s.0, u.0), omega (arith, s.1, u.0, u.1), omega (arith, s.2, u.1)))
    (λ u. let v = stored_low low high n (r.high + 2) rs s.3 u in (omega (arith, s.0, s.1, v.0), v.1, v.2))
    (stored-cases low high r rs t)

pub above-whole : (high n least : ℕ) (rs : List Run) → Separated n least rs → high + 1 < least → keep_above high rs ≡ rs
above-whole high n least [] s q = above-nil high
above-whole high n least (r ∷ rs) s q = above_in high r rs (omega (arith, s.0)) ∙ ap (λ (l : List Run). r ∷ l) (above-whole high n (r.high + 2) rs s.3 (omega (arith, s.0, s.1)))

-- ---- deleting

record Removes (n least low high : ℕ) (rs xs : List Run) : Type 0 where
  sep : Separated n least xs
  out : (j : ℕ) → In xs j → In rs j × ((j < low) ⊎ (high < j))
  back : (j : ℕ) → In rs j → (j < low) ⊎ (high < j) → In xs j

remove : (low high n least : ℕ) (rs : List Run) → 1 ≤ low → low ≤ high → Separated n least rs → T (stored rs (run_of low high)) → Removes n least low high rs (removed low high rs)
remove low high n least [] some order s t = absurd (stored-nil (run_of low high) t)
remove low high n least (r ∷ rs) some order s t =
    ⊎_elim
    (λ (u : (low ≡ r.low) × (high ≡ r.high)).
    let e1 = below_out low r rs (omega (arith, s.1, u.0)) ∙ below_none low some n (r.high + 2) rs s.3 (omega (arith, s.1, u.0)) in
    let e2 = above-out high r rs (omega (arith, s.1, u.1)) ∙ above-whole high n (r.high + 2) rs s.3 (omega (arith, u.1)) in
    subst (λ (xs : List Run). Removes n least low high (r ∷ rs) xs) (sym (ap₂ (λ (x y : List Run). x ++ y) e1 e2)) (gone u))
    (λ (u : T (stored rs (run_of low high))).
    let v = stored_low low high n (r.high + 2) rs s.3 u in
    let e1 = below_in low r rs (omega (arith, v.0)) in
    let e2 = above-out high r rs (omega (arith, s.1, v.0)) in
    subst (λ (xs : List Run). Removes n least low high (r ∷ rs) xs) (sym (ap₂ (λ (x y : List Run). x ++ y) e1 e2)) (stays v.0 (remove low high n (r.high + 2) rs some order s.3 u)))
    (stored-cases low high r rs t)
  where
    gone : (low ≡ r.low) × (high ≡ r.high) → Removes n least low high (r ∷ rs) rs
    gone u = record {
      sep = separated_weaken n (r.high + 2) least rs (omega (arith, s.0, s.1)) s.3;
      out = λ j v. (inr v, inr (omega (arith, in_low n (r.high + 2) rs j s.3 v, u.1)));
      back = λ j v w. ⊎_elim (λ (x : (r.low ≤ j) × (j ≤ r.high)). absurd (⊎_elim (λ (y : j < low). omega (arith, x.0, u.0)) (λ (y : high < j). omega (arith, x.1, u.1)) w))
          (λ x. x) v;
    }

    stays : r.high + 2 ≤ low → Removes n (r.high + 2) low high rs (removed low high rs) → Removes n least low high (r ∷ rs) (r ∷ removed low high rs)
    stays p m = record {
      sep = (s.0, s.1, s.2, m.sep);
      out = λ j v. ⊎_elim (λ (x : (r.low ≤ j) × (j ≤ r.high)). (inl x, inl (omega (arith, x.1)))) (λ x. let y = m.out j x in (inr y.0, y.1)) v;
      back = λ j v w. ⊎_elim (λ x. inl x) (λ x. inr (m.back j x w)) v;
    }

pub removed-without : (low high : ℕ) (rs : List Run) → Sep rs → stored rs (record { low = low; high = high }) ≡ true → removed low high rs ≡ runs_without rs
    (record { low = low; high = high })
unfolding runs_without
removed-without low high rs s e =
    let t = true→T (stored rs (run_of low high)) e in
    let b = stored_low low high (2 ^ 62) 1 rs s t in
    let m = remove low high (2 ^ 62) 1 rs b.0 b.1 s t in
    runs_by (λ k. in_runs rs k && not (in_run (run_of low high) k)) (2 ^ 62) (removed low high rs) m.sep
    (λ j u. let v = m.out j u in both (in_runs rs j) (not (in_run (run_of low high) j)) (→in rs j v.0) (false→not (in_run (run_of low high) j) (outside j v.1)))
    (λ j p q u. m.back j (in→ rs j (and_left (in_runs rs j) (not (in_run (run_of low high) j)) u)) (apart j (and_right (in_runs rs j) (not (in_run (run_of low high) j)) u)))
  where
    outside : (j : ℕ) → (j < low) ⊎ (high < j) → in_run (run_of low high) j ≡ false
    outside j v =
        not→false (in_run (run_of low high) j)
        (λ (t : T (in_run (run_of low high) j)).
        let x = leb→le low j (and_left (leb low j) (leb j high) t) in
        let y = leb→le j high (and_right (leb low j) (leb j high) t) in
        ⊎_elim (λ (z : j < low). omega arith) (λ (z : high < j). omega arith) v)

    apart : (j : ℕ) → T (not (in_run (run_of low high) j)) → (j < low) ⊎ (high < j)
    apart j t =
        ⊎_elim
        (λ (p : low ≤ j).
        ⊎_elim
        (λ (q : j ≤ high). absurd (subst (λ (b : Bool). T (not b)) (T→true (in_run (run_of low high) j) (both (leb low j) (leb j high) (le→leb low j p) (le→leb j high q))) t))
        (λ (q : high < j). inr q)
        (le_or_lt j high))
        (λ (p : j < low). inl p)
        (le_or_lt low j)

pub removed-sep : (low high : ℕ) (rs : List Run) → Sep rs → stored rs (record { low = low; high = high }) ≡ true → Sep (removed low high rs)
removed-sep low high rs s e =
    let t = true→T (stored rs (run_of low high)) e in
    let b = stored_low low high (2 ^ 62) 1 rs s t in
    (remove low high (2 ^ 62) 1 rs b.0 b.1 s t).sep

-- ---- how many runs are kept

-- no run is kept twice
pub removed-few : (low high n least : ℕ) (rs : List Run) → low ≤ high → Separated n least rs → length (keep_below low rs) + length (keep_above high rs) ≤ length rs
removed-few low high n least [] order s = let e1 = ap length (below-nil low) in let e2 = ap length (above-nil high) in omega (arith, e1, e2)
removed-few low high n least (r ∷ rs) order s =
    let ih = removed-few low high n (r.high + 2) rs order s.3 in
    ⊎_elim
    (λ (q : low ≤ r.high + 1).
    let e1 = ap length (below_out low r rs q) in
    ⊎_elim
    (λ (p : r.low ≤ high + 1). let e2 = ap length (above-out high r rs p) in omega (arith, e1, e2, ih))
    (λ (p : high + 1 < r.low). let e2 = ap length (above_in high r rs p) in omega (arith, e1, e2, ih))
    (le_or_lt r.low (high + 1)))
    (λ (q : r.high + 1 < low).
    let e1 = ap length (below_in low r rs q) in
    let e2 = ap length (above-out high r rs (omega (arith, s.1))) in
    omega (arith, e1, e2, ih))
    (le_or_lt low (r.high + 1))

-- the first run that reaches the neighbour below touches the run, or does not
abbrev pub Touch : ℕ → Found → Type 0
Touch high none = ⊥
Touch high (found r) = r.low ≤ high + 1

abbrev pub Far : ℕ → Found → Type 0
Far high none = Unit {0}
Far high (found r) = high + 1 < r.low

above-few : (high : ℕ) (rs : List Run) → length (keep_above high rs) ≤ length rs
above-few high [] = rw (above-nil high) (omega arith)
above-few high (r ∷ rs) =
    ⊎_elim
    (λ (q : r.low ≤ high + 1). let e = ap length (above-out high r rs q) in omega (arith, e, above-few high rs))
    (λ (q : high + 1 < r.low). let e = ap length (above_in high r rs q) in omega (arith, e, above-few high rs))
    (le_or_lt r.low (high + 1))

module _ (low high : ℕ) (some : 1 ≤ low) (order : low ≤ high) where
  pub kept_less : (n least : ℕ) (rs : List Run) → Separated n least rs → Touch high (first_run_of (reaches (low - 1)) rs)
      → length (keep_below low rs) + length (keep_above high rs) + 1 ≤ length rs
  kept_less n least [] s t = absurd (subst (Touch high) (first-nil (reaches (low - 1))) t)
  kept_less n least (r ∷ rs) s t =
      ⊎_elim
      (λ (q : low ≤ r.high + 1).
      let f : r.low ≤ high + 1 = subst (Touch high) (first-in (reaches (low - 1)) r rs (le-leb (low - 1) r.high (omega arith))) t in
      let e1 = ap length (below_out low r rs q ∙ below_none low some n (r.high + 2) rs s.3 (omega arith)) in
      let e2 = ap length (above-out high r rs f) in
      omega (arith, e1, e2, above-few high rs))
      (λ (q : r.high + 1 < low).
      let ih = kept_less n (r.high + 2) rs s.3 (subst (Touch high) (first_out (reaches (low - 1)) r rs (lt-leb (low - 1) r.high (omega arith))) t) in
      let e1 = ap length (below_in low r rs q) in
      let e2 = ap length (above-out high r rs (omega (arith, s.1))) in
      omega (arith, e1, e2, ih))
      (le_or_lt low (r.high + 1))

  pub kept-all : (n least : ℕ) (rs : List Run) → Separated n least rs → Far high (first_run_of (reaches (low - 1)) rs)
      → length (keep_below low rs) + length (keep_above high rs) ≡ length rs
  kept-all n least [] s t = let e1 = ap length (below-nil low) in let e2 = ap length (above-nil high) in omega (arith, e1, e2)
  kept-all n least (r ∷ rs) s t =
      ⊎_elim
      (λ (q : low ≤ r.high + 1).
      let f : high + 1 < r.low = subst (Far high) (first-in (reaches (low - 1)) r rs (le-leb (low - 1) r.high (omega arith))) t in
      let e1 = ap length (below_out low r rs q ∙ below_none low some n (r.high + 2) rs s.3 (omega arith)) in
      let e2 = ap length (above-whole high n r.low (r ∷ rs) (omega arith, s.1, s.2, s.3) f) in
      omega (arith, e1, e2))
      (λ (q : r.high + 1 < low).
      let ih = kept-all n (r.high + 2) rs s.3 (subst (Far high) (first_out (reaches (low - 1)) r rs (lt-leb (low - 1) r.high (omega arith))) t) in
      let e1 = ap length (below_in low r rs q) in
      let e2 = ap length (above-out high r rs (omega (arith, s.1))) in
      omega (arith, e1, e2, ih))
      (le_or_lt low (r.high + 1))

  module _ (rs : List Run) (s : Sep rs) (most : high ≤ 2 ^ 62) where
    with-length : length (runs_with rs (record { low = low; high = high })) ≡ length (keep_below low rs) + length (keep_above high rs) + 1
    with-length =
        let e = ap length (merged-with low high some order rs s most) in
        let f = length-append (keep_below low rs) (record { low = join_low low rs; high = join_high high rs } ∷ keep_above high rs) in
        omega (arith, e, f)

    pub with-touch : Touch high (first_run_of (reaches (low - 1)) rs) → length (runs_with rs (record { low = low; high = high })) ≤ length rs
    with-touch t = omega (arith, with-length, kept_less (2 ^ 62) 1 rs s t)

    pub with-far : Far high (first_run_of (reaches (low - 1)) rs) → length (runs_with rs (record { low = low; high = high })) ≡ length rs + 1
    with-far t = omega (arith, with-length, kept-all (2 ^ 62) 1 rs s t)
