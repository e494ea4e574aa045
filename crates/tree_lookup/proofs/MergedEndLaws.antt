-- The ends of the run that a run makes with those that it touches.
use Rattle.model.proofs.Prelude.{ℕ, ◌≤◌, ◌<◌, ◌+◌, ◌-◌, ◌≡◌, ◌∙◌, ap, refl, sym, subst, ⊎_elim, inl, inr, ◌⊎◌, List, [], ◌∷◌, arith, le-leb, lt-leb}
use Rattle.model.proofs.Prelude.{lt-ltb, le-ltb}
use Rattle.model.specs.Runs.{Run, Separated}
use Rattle.model.proofs.BoolLaws.{le_or_lt}
use Rattle.model.proofs.RunLaws.{In, in_low}
use Rattle.tree_words.specs.Calls.{Found, none, found, or_else}
use Rattle.tree_words.specs.KeptRuns.{keep_below, keep_above}
use Rattle.tree_descent.specs.Descent.{last_run, reaches, begins}
use Rattle.tree_lookup.specs.Lookup.{low_end, high_end, join_low, join_high}
use Rattle.tree_words.proofs.KeepLaws.{below_in, below_out, below-nil, above_in, above-out, above-nil, above-sep}
use Rattle.tree_descent.proofs.FoundLaws.{first-nil, first-in, first_out, last-nil, last-in, last_out}

-- ---- the ends

pub low-none : (low : ℕ) → low_end low none ≡ low
unfolding low_end
low-none low = refl

pub low-less : (low : ℕ) (r : Run) → r.low < low → low_end low (found r) ≡ r.low
unfolding low_end
low-less low r q = rw (lt-ltb r.low low q, low_end) refl

pub low-more : (low : ℕ) (r : Run) → low ≤ r.low → low_end low (found r) ≡ low
unfolding low_end
low-more low r q = rw (le-ltb r.low low q, low_end) refl

pub high-none : (high : ℕ) → high_end high none ≡ high
unfolding high_end
high-none high = refl

pub high-more : (high : ℕ) (r : Run) → high < r.high → high_end high (found r) ≡ r.high
unfolding high_end
high-more high r q = rw (lt-ltb high r.high q, high_end) refl

pub high-less : (high : ℕ) (r : Run) → r.high ≤ high → high_end high (found r) ≡ high
unfolding high_end
high-less high r q = rw (le-ltb high r.high q, high_end) refl

-- the smaller and the larger of two numbers, as the ends are
pub low-both : (low : ℕ) (r : Run) → (low_end low (found r) ≤ low) × (low_end low (found r) ≤ r.low) × ((low_end low (found r) ≡ low) ⊎ (low_end low (found r) ≡ r.low))
low-both low r =
    ⊎_elim
    (λ (q : low ≤ r.low). let e = low-more low r q in (omega (arith, e), omega (arith, e), inl e))
    (λ (q : r.low < low). let e = low-less low r q in (omega (arith, e), omega (arith, e), inr e))
    (le_or_lt low r.low)

high-both : (high : ℕ) (r : Run) → (high ≤ high_end high (found r)) × (r.high ≤ high_end high (found r)) × ((high_end high (found r) ≡ high) ⊎ (high_end high (found r) ≡ r.high))
high-both high r =
    ⊎_elim
    (λ (q : r.high ≤ high). let e = high-less high r q in (omega (arith, e), omega (arith, e), inl e))
    (λ (q : high < r.high). let e = high-more high r q in (omega (arith, e), omega (arith, e), inr e))
    (le_or_lt r.high high)

-- ---- the low end

module _ (low : ℕ) (some : 1 ≤ low) where
  pub low-nil : join_low low [] ≡ low
  low-nil = ap (low_end low) (first-nil (reaches (low - 1))) ∙ low-none low

  pub low-skip : (r : Run) (rs : List Run) → r.high + 1 < low → join_low low (r ∷ rs) ≡ join_low low rs
  low-skip r rs q = ap (low_end low) (first_out (reaches (low - 1)) r rs (lt-leb (low - 1) r.high (omega arith)))

  pub low-here : (r : Run) (rs : List Run) → low ≤ r.high + 1 → join_low low (r ∷ rs) ≡ low_end low (found r)
  low-here r rs q = ap (low_end low) (first-in (reaches (low - 1)) r rs (le-leb (low - 1) r.high (omega arith)))

  pub low-le : (rs : List Run) → join_low low rs ≤ low
  low-le [] = omega (arith, low-nil)
  low-le (r ∷ rs) =
      ⊎_elim
      (λ (q : low ≤ r.high + 1). omega (arith, low-here r rs q, (low-both low r).0))
      (λ (q : r.high + 1 < low). omega (arith, low-skip r rs q, low-le rs))
      (le_or_lt low (r.high + 1))

  -- a number held is kept below, or not below the low end
  pub low-in : (n least : ℕ) (rs : List Run) (j : ℕ) → Separated n least rs → In rs j → In (keep_below low rs) j ⊎ (join_low low rs ≤ j)
  low-in n least [] j s t = elim t [ ]
  low-in n least (r ∷ rs) j s t =
      ⊎_elim
      (λ (q : low ≤ r.high + 1). inr (omega (arith, low-here r rs q, (low-both low r).1, in_low n r.low (r ∷ rs) j (omega arith, s.1, s.2, s.3) t)))
      (λ (q : r.high + 1 < low).
      rw (below_in low r rs q, low-skip r rs q)
      (⊎_elim (λ u. inl (inl u)) (λ u. ⊎_elim (λ v. inl (inr v)) (λ v. inr v) (low-in n (r.high + 2) rs j s.3 u)) t))
      (le_or_lt low (r.high + 1))

  -- the numbers from the low end to the run are held
  pub low-fill : (rs : List Run) (j : ℕ) → join_low low rs ≤ j → j < low → In rs j
  low-fill [] j p q = absurd (omega (arith, low-nil))
  low-fill (r ∷ rs) j p q =
      ⊎_elim
      (λ (u : low ≤ r.high + 1).
      ⊎_elim
      (λ (e : low_end low (found r) ≡ low). absurd (omega (arith, low-here r rs u)))
      (λ (e : low_end low (found r) ≡ r.low). inl (omega (arith, low-here r rs u), omega arith))
      (low-both low r).2)
      (λ (u : r.high + 1 < low). inr (low-fill rs j (omega (arith, low-skip r rs u)) q))
      (le_or_lt low (r.high + 1))

  pub below-held : (rs : List Run) (j : ℕ) → In (keep_below low rs) j → In rs j
  below-held [] j t = rw (below-nil low) at t
  below-held (r ∷ rs) j t =
      ⊎_elim
      (λ (u : low ≤ r.high + 1). inr (below-held rs j (rw (below_out low r rs u) at t)))
      (λ (u : r.high + 1 < low). ⊎_elim (λ v. inl v) (λ v. inr (below-held rs j v)) (rw (below_in low r rs u) at t))
      (le_or_lt low (r.high + 1))

  pub below_none : (n least : ℕ) (rs : List Run) → Separated n least rs → low ≤ least + 1 → keep_below low rs ≡ []
  below_none n least [] s q = below-nil low
  below_none n least (r ∷ rs) s q = below_out low r rs (omega (arith, s.0, s.1)) ∙ below_none n (r.high + 2) rs s.3 (omega (arith, s.0, s.1))

-- ---- the high end

module _ (high : ℕ) where
  pub high-nil : join_high high [] ≡ high
  high-nil = ap (high_end high) (last-nil (begins (high + 1))) ∙ high-none high

  pub high-skip : (r : Run) (rs : List Run) → high + 1 < r.low → join_high high (r ∷ rs) ≡ join_high high rs
  high-skip r rs q = ap (high_end high) (last_out (begins (high + 1)) r rs (lt-leb r.low (high + 1) q))

  -- the last that begins: the run itself, or one behind it
  pub record Here (least : ℕ) (r : Run) (rs : List Run) : Type 0 where
    pub none-behind : join_high high rs ≡ high
    pub here : join_high high (r ∷ rs) ≡ high_end high (found r)

  pub record There (least : ℕ) (r : Run) (rs : List Run) : Type 0 where
    pub there : join_high high (r ∷ rs) ≡ join_high high rs
    pub beyond : least ≤ join_high high rs

  abbrev Beyond : ℕ → Found → Type 0
  Beyond least none = Unit {0}
  Beyond least (found s) = least ≤ s.high

  last-beyond : (n least : ℕ) (rs : List Run) → Separated n least rs → Beyond least (last_run (begins (high + 1)) rs)
  last-beyond n least [] s = subst (Beyond least) (sym (last-nil (begins (high + 1)))) tt
  last-beyond n least (r ∷ rs) s =
      ⊎_elim
      (λ (q : r.low ≤ high + 1).
      subst (Beyond least) (sym (last-in (begins (high + 1)) r rs (le-leb r.low (high + 1) q))) (go (last_run (begins (high + 1)) rs) (last-beyond n (r.high + 2) rs s.3)))
      (λ (q : high + 1 < r.low).
      subst (Beyond least) (sym (last_out (begins (high + 1)) r rs (lt-leb r.low (high + 1) q))) (weaker (last_run (begins (high + 1)) rs) (last-beyond n (r.high + 2) rs s.3)))
      (le_or_lt r.low (high + 1))
    where
      go : (f : Found) → Beyond (r.high + 2) f → Beyond least (or_else f (found r))
      go none b = omega (arith, s.0, s.1)
      go (found x) b = omega (arith, s.0, s.1)

      weaker : (f : Found) → Beyond (r.high + 2) f → Beyond least f
      weaker none b = tt
      weaker (found x) b = omega (arith, s.0, s.1)

  pub high-step : (n least : ℕ) (r : Run) (rs : List Run) → Separated n least (r ∷ rs) → r.low ≤ high + 1
      → Here (r.high + 2) r rs ⊎ There (r.high + 2) r rs
  high-step n least r rs s q =
      go (last_run (begins (high + 1)) rs) refl (last-beyond n (r.high + 2) rs s.3) (last-in (begins (high + 1)) r rs (le-leb r.low (high + 1) q))
    where
      go : (f : Found) → last_run (begins (high + 1)) rs ≡ f → Beyond (r.high + 2) (last_run (begins (high + 1)) rs)
          → last_run (begins (high + 1)) (r ∷ rs) ≡ or_else (last_run (begins (high + 1)) rs) (found r)
          → Here (r.high + 2) r rs ⊎ There (r.high + 2) r rs
      go none e b i = inl (record { none-behind = ap (high_end high) e ∙ high-none high; here = ap (high_end high) (i ∙ ap (λ (f : Found). or_else f (found r)) e) })
      go (found x) e b i =
          let b' : r.high + 2 ≤ x.high = subst (Beyond (r.high + 2)) e b in
          let f = ap (high_end high) e in
          inr (record { there = ap (high_end high) (i ∙ ap (λ (g : Found). or_else g (found r)) e ∙ sym e); beyond = omega (arith, f, b', (high-both high x).1) })

  pub high-ge : (n least : ℕ) (rs : List Run) → Separated n least rs → high ≤ join_high high rs
  high-ge n least [] s = omega (arith, high-nil)
  high-ge n least (r ∷ rs) s =
      ⊎_elim
      (λ (q : r.low ≤ high + 1).
      ⊎_elim
      (λ (h : Here (r.high + 2) r rs). omega (arith, h.here, (high-both high r).0))
      (λ (h : There (r.high + 2) r rs). omega (arith, h.there, high-ge n (r.high + 2) rs s.3))
      (high-step n least r rs s q))
      (λ (q : high + 1 < r.low). omega (arith, high-skip r rs q, high-ge n (r.high + 2) rs s.3))
      (le_or_lt r.low (high + 1))

  pub high-top : (n least : ℕ) (rs : List Run) → Separated n least rs → high ≤ n → join_high high rs ≤ n
  high-top n least [] s p = omega (arith, high-nil)
  high-top n least (r ∷ rs) s p =
      ⊎_elim
      (λ (q : r.low ≤ high + 1).
      ⊎_elim
      (λ (h : Here (r.high + 2) r rs).
      ⊎_elim
      (λ (e : high_end high (found r) ≡ high). omega (arith, h.here))
      (λ (e : high_end high (found r) ≡ r.high). omega (arith, h.here, s.2))
      (high-both high r).2)
      (λ (h : There (r.high + 2) r rs). omega (arith, h.there, high-top n (r.high + 2) rs s.3 p))
      (high-step n least r rs s q))
      (λ (q : high + 1 < r.low). omega (arith, high-skip r rs q, high-top n (r.high + 2) rs s.3 p))
      (le_or_lt r.low (high + 1))

  pub high-in : (n least : ℕ) (rs : List Run) (j : ℕ) → Separated n least rs → In rs j → In (keep_above high rs) j ⊎ (j ≤ join_high high rs)
  high-in n least [] j s t = elim t [ ]
  high-in n least (r ∷ rs) j s t =
      ⊎_elim
      (λ (q : r.low ≤ high + 1). rw (above-out high r rs q) (⊎_elim (in_here (high-in n (r.high + 2) rs j s.3) t) (in_there (high-in n (r.high + 2) rs j s.3) t)
      (high-step n least r rs s q)))
      (λ (q : high + 1 < r.low). rw (above_in high r rs q, high-skip r rs q) (go (high-in n (r.high + 2) rs j s.3) t))
      (le_or_lt r.low (high + 1))
    where
      go : (In rs j → In (keep_above high rs) j ⊎ (j ≤ join_high high rs)) → In (r ∷ rs) j → In (r ∷ keep_above high rs) j ⊎ (j ≤ join_high high rs)
      go ih (inl u) = inl (inl u)
      go ih (inr u) = ⊎_elim (λ v. inl (inr v)) (λ v. inr v) (ih u)

      in_here : (In rs j → In (keep_above high rs) j ⊎ (j ≤ join_high high rs)) → In (r ∷ rs) j → Here (r.high + 2) r rs → In (keep_above high rs) j ⊎
          (j ≤ join_high high (r ∷ rs))
      in_here ih (inl u) h = inr (omega (arith, h.here, (high-both high r).1, u.1))
      in_here ih (inr u) h = ⊎_elim (λ v. inl v) (λ (v : j ≤ join_high high rs). inr (omega (arith, h.here, h.none-behind, (high-both high r).0))) (ih u)

      in_there : (In rs j → In (keep_above high rs) j ⊎ (j ≤ join_high high rs)) → In (r ∷ rs) j → There (r.high + 2) r rs → In (keep_above high rs) j ⊎
          (j ≤ join_high high (r ∷ rs))
      in_there ih (inl u) h = inr (omega (arith, h.there, h.beyond, u.1))
      in_there ih (inr u) h = ⊎_elim (λ v. inl v) (λ (v : j ≤ join_high high rs). inr (omega (arith, h.there))) (ih u)

  pub high-fill : (n least : ℕ) (rs : List Run) (j : ℕ) → Separated n least rs → high < j → j ≤ join_high high rs → In rs j
  high-fill n least [] j s p q = absurd (omega (arith, high-nil))
  high-fill n least (r ∷ rs) j s p q =
      ⊎_elim
      (λ (u : r.low ≤ high + 1).
      ⊎_elim
      (λ (h : Here (r.high + 2) r rs).
      ⊎_elim
      (λ (e : high_end high (found r) ≡ high). absurd (omega (arith, h.here)))
      (λ (e : high_end high (found r) ≡ r.high). inl (omega arith, omega (arith, h.here)))
      (high-both high r).2)
      (λ (h : There (r.high + 2) r rs). inr (high-fill n (r.high + 2) rs j s.3 p (omega (arith, h.there))))
      (high-step n least r rs s u))
      (λ (u : high + 1 < r.low). inr (high-fill n (r.high + 2) rs j s.3 p (omega (arith, high-skip r rs u))))
      (le_or_lt r.low (high + 1))

  pub above-held : (rs : List Run) (j : ℕ) → In (keep_above high rs) j → In rs j
  above-held [] j t = rw (above-nil high) at t
  above-held (r ∷ rs) j t =
      ⊎_elim
      (λ (u : r.low ≤ high + 1). inr (above-held rs j (rw (above-out high r rs u) at t)))
      (λ (u : high + 1 < r.low). ⊎_elim (λ v. inl v) (λ v. inr (above-held rs j v)) (rw (above_in high r rs u) at t))
      (le_or_lt r.low (high + 1))

  high-alone : (n least : ℕ) (rs : List Run) → Separated n least rs → high + 1 < least → join_high high rs ≡ high
  high-alone n least [] s q = high-nil
  high-alone n least (r ∷ rs) s q = high-skip r rs (omega (arith, s.0)) ∙ high-alone n (r.high + 2) rs s.3 (omega (arith, s.0, s.1))

  sep-end : (n a b c : ℕ) (rs : List Run) → Separated n a rs → Separated n b rs → (c ≡ a) ⊎ (c ≡ b) → Separated n c rs
  sep-end n a b c rs p q (inl e) = subst (λ (x : ℕ). Separated n x rs) (sym e) p
  sep-end n a b c rs p q (inr e) = subst (λ (x : ℕ). Separated n x rs) (sym e) q

  -- the runs kept above are apart from the high end
  pub above-after : (n least : ℕ) (rs : List Run) → Separated n least rs → Separated n (join_high high rs + 2) (keep_above high rs)
  above-after n least [] s = rw (above-nil high) tt
  above-after n least (r ∷ rs) s =
      ⊎_elim
      (λ (q : r.low ≤ high + 1).
      rw (above-out high r rs q)
      (⊎_elim
      (λ (h : Here (r.high + 2) r rs).
      let p : Separated n (high + 2) (keep_above high rs) = subst (λ (x : ℕ). Separated n (x + 2) (keep_above high rs)) h.none-behind (above-after n (r.high + 2) rs s.3) in
      sep-end n (high + 2) (r.high + 2) (join_high high (r ∷ rs) + 2) (keep_above high rs) p (above-sep n (r.high + 2) high rs s.3)
      (⊎_elim
      (λ (e : high_end high (found r) ≡ high). inl (ap (λ (x : ℕ). x + 2) (h.here ∙ e)))
      (λ (e : high_end high (found r) ≡ r.high). inr (ap (λ (x : ℕ). x + 2) (h.here ∙ e)))
      (high-both high r).2))
      (λ (h : There (r.high + 2) r rs). subst (λ (x : ℕ). Separated n (x + 2) (keep_above high rs)) (sym h.there) (above-after n (r.high + 2) rs s.3))
      (high-step n least r rs s q)))
      (λ (q : high + 1 < r.low).
      let e = high-alone n r.low (r ∷ rs) (omega arith, s.1, s.2, s.3) q in
      rw (above_in high r rs q) (omega (arith, e), s.1, s.2, above-sep n (r.high + 2) high rs s.3))
      (le_or_lt r.low (high + 1))
