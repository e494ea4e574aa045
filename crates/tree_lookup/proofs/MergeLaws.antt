-- The runs kept below and above a run, with the merged run between them, are the runs of the numbers held and those of the run.
use Rattle.model.proofs.Prelude.{ℕ, ◌≤◌, ◌<◌, ◌+◌, ◌^◌, ◌≡◌, ◌∙◌, sym, ⊎_elim, inl, inr, ◌⊎◌, ◌||◌, List, [], ◌∷◌, leb, T, leb→le, le→leb}
use Rattle.model.proofs.Prelude.{arith}
use Rattle.model.specs.Runs.{Run, Separated, in_run, in_runs}
use Rattle.model.proofs.BoolLaws.{le_or_lt, and_left, and_right, both, or_cases, or_left, or_right}
use Rattle.model.proofs.RunLaws.{In, in→, →in, runs_by, in_left, in_right, in_append}
use Rattle.tree_words.specs.Calls.{found, runs_with}
use Rattle.tree_words.specs.Nodes.{Sep}
use Rattle.tree_words.specs.KeptRuns.{keep_below, keep_above}
use Rattle.tree_lookup.specs.Lookup.{low_end, join_low, join_high, merged}
use Rattle.tree_words.proofs.KeepLaws.{below_in, below_out, below-nil, above-out, above-nil}
use Rattle.tree_lookup.proofs.MergedEndLaws.{high-less, below-held, high-ge, low-le, low-nil, low-both, low-skip, low-here, high-nil, low-fill, high-step, high-top, high-fill}
use Rattle.tree_lookup.proofs.MergedEndLaws.{above-after, There, low-in, below_none, Here, above-held, high-in}

-- ---- the whole

module _ (low high : ℕ) (some : 1 ≤ low) (order : low ≤ high) where
  pub merged-sep : (n least : ℕ) (rs : List Run) → Separated n least rs → least ≤ low → high ≤ n → Separated n least (merged low high rs)
  merged-sep n least [] s p q = rw (below-nil low, above-nil high, low-nil low some, high-nil high) (p, order, q, tt)
  merged-sep n least (r ∷ rs) s p q =
      ⊎_elim
      (λ (u : low ≤ r.high + 1).
      let e = below_out low r rs u ∙ below_none low some n (r.high + 2) rs s.3 (omega arith) in
      let f = low-here low some r rs u in
      rw e (
        omega (arith, f, lows least s.0 p),
        omega (arith, low-le low some (r ∷ rs), high-ge high n least (r ∷ rs) s),
        high-top high n least (r ∷ rs) s q,
        above-after high n least
            (r ∷ rs) s,
      ))
      (λ (u : r.high + 1 < low).
      let a = above-out high r rs (omega (arith, s.1)) in
      let f = low-skip low some r rs u in
      let g = same u in
      rw (below_in low r rs u, a, f, g) (s.0, s.1, s.2, merged-sep n (r.high + 2) rs s.3 (omega arith) q))
      (le_or_lt low (r.high + 1))
    where
      lows : (m : ℕ) → m ≤ r.low → m ≤ low → m ≤ low_end low (found r)
      lows m w x =
          ⊎_elim (λ (e : low_end low (found r) ≡ low). omega arith) (λ (e : low_end low (found r) ≡ r.low). omega arith) (low-both low r).2

      same : r.high + 1 < low → join_high high (r ∷ rs) ≡ join_high high rs
      same u =
          ⊎_elim
          (λ (h : Here high (r.high + 2) r rs). h.here ∙ high-less high r (omega arith) ∙ sym h.none-behind)
          (λ (h : There high (r.high + 2) r rs). h.there)
          (high-step high n least r rs s (omega (arith, s.1)))

  module _ (rs : List Run) (s : Sep rs) where
    abbrev the : Run
    the = record { low = low; high = high }

    out : (j : ℕ) → In (merged low high rs) j → ((low ≤ j) × (j ≤ high)) ⊎ In rs j
    out j t =
        ⊎_elim
        (λ u. inr (below-held low some rs j u))
        (λ u. ⊎_elim between (λ v. inr (above-held high rs j v)) u)
        (in_append (keep_below low rs) (record { low = join_low low rs; high = join_high high rs } ∷ keep_above high rs) j t)
      where
        between : (join_low low rs ≤ j) × (j ≤ join_high high rs) → ((low ≤ j) × (j ≤ high)) ⊎ In rs j
        between p =
            ⊎_elim
            (λ (a : low ≤ j).
            ⊎_elim
            (λ (b : j ≤ high). inl (a, b))
            (λ (b : high < j). inr (high-fill high (2 ^ 62) 1 rs j s b p.1))
            (le_or_lt j high))
            (λ (a : j < low). inr (low-fill low some rs j p.0 a))
            (le_or_lt low j)

    middle : (j : ℕ) → join_low low rs ≤ j → j ≤ join_high high rs → In (merged low high rs) j
    middle j a b = in_right (keep_below low rs) (record { low = join_low low rs; high = join_high high rs } ∷ keep_above high rs) j (inl (a, b))

    back : (j : ℕ) → In rs j → In (merged low high rs) j
    back j t =
        ⊎_elim
        (λ u. in_left (keep_below low rs) (record { low = join_low low rs; high = join_high high rs } ∷ keep_above high rs) j u)
        (λ (a : join_low low rs ≤ j).
        ⊎_elim
        (λ u. in_right (keep_below low rs) (record { low = join_low low rs; high = join_high high rs } ∷ keep_above high rs) j (inr u))
        (λ (b : j ≤ join_high high rs). middle j a b)
        (high-in high (2 ^ 62) 1 rs j s t))
        (low-in low some (2 ^ 62) 1 rs j s t)

    -- Inserting
    pub merged-with : high ≤ 2 ^ 62 → merged low high rs ≡ runs_with rs (record { low = low; high = high })
    unfolding runs_with
    merged-with q =
        runs_by (λ k. in_run the k || in_runs rs k) (2 ^ 62) (merged low high rs) (merged-sep (2 ^ 62) 1 rs s some q) to from
      where
        to : (j : ℕ) → In (merged low high rs) j → T (in_run the j || in_runs rs j)
        to j t =
            ⊎_elim
            (λ (p : (low ≤ j) × (j ≤ high)). or_left (in_run the j) (in_runs rs j) (both (leb low j) (leb j high) (le→leb low j p.0) (le→leb j high p.1)))
            (λ (p : In rs j). or_right (in_run the j) (in_runs rs j) (→in rs j p))
            (out j t)

        from : (j : ℕ) → 1 ≤ j → j ≤ 2 ^ 62 → T (in_run the j || in_runs rs j) → In (merged low high rs) j
        from j a b t =
            ⊎_elim
            (λ (p : T (in_run the j)).
            let x = leb→le low j (and_left (leb low j) (leb j high) p) in
            let y = leb→le j high (and_right (leb low j) (leb j high) p) in
            middle j (omega (arith, low-le low some rs, x)) (omega (arith, high-ge high (2 ^ 62) 1 rs s, y)))
            (λ (p : T (in_runs rs j)). back j (in→ rs j p))
            (or_cases (in_run the j) (in_runs rs j) t)
