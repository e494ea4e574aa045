-- Laws of search on separated runs: what the first run that reaches a number tells.
use Rattle.model.proofs.Prelude.{ℕ, ◌≤◌, ◌<◌, ◌+◌, ◌-◌, ◌≡◌, ◌∙◌, refl, sym, subst, ⊎_elim, ◌⊎◌, true, Bool, false, ◌&&◌, List, [], ◌∷◌, eqb, arith}
use Rattle.model.proofs.Prelude.{le-leb, lt-leb, ne_eqb, eq-eqb}
use Rattle.model.specs.Runs.{Run, Separated}
use Rattle.model.proofs.BoolLaws.{le_or_lt}
use Rattle.tree_words.specs.Calls.{Found, none, found, first_run_of, overlaps, adjacent, stored, run_of}
use Rattle.tree_descent.specs.Descent.{reaches}
use Rattle.tree_descent.proofs.FoundLaws.{first-nil, first-in, first_out}

-- the run found begins at `high` or below; it does not, or there is none
abbrev pub Begun : ℕ → Found → Type 0
Begun high none = ⊥
Begun high (found r) = r.low ≤ high

abbrev pub Behind : ℕ → Found → Type 0
Behind high none = Unit {0}
Behind high (found r) = high < r.low

-- the run found ends just below, or begins just above or below that
abbrev pub Next : ℕ → ℕ → Found → Type 0
Next low high none = ⊥
Next low high (found r) = (r.high < low) ⊎ (r.low ≤ high + 1)

abbrev pub NotNext : ℕ → ℕ → Found → Type 0
NotNext low high none = Unit {0}
NotNext low high (found r) = (low ≤ r.high) × (high + 1 < r.low)

module _ (low high : ℕ) (order : low ≤ high) where
  over_yes : (r : Run) → low ≤ r.high → r.low ≤ high → overlaps (run_of low high) r ≡ true
  over_yes r p q = let w = le-leb low r.high p in let v = le-leb r.low high q in rw (w, v) refl

  over-low : (r : Run) → r.high < low → overlaps (run_of low high) r ≡ false
  over-low r p = let w = lt-leb low r.high p in rw w refl

  over-high : (r : Run) → low ≤ r.high → high < r.low → overlaps (run_of low high) r ≡ false
  over-high r p q = let w = le-leb low r.high p in let v = lt-leb r.low high q in rw (w, v) refl

  over_none : (n least : ℕ) (rs : List Run) → Separated n least rs → high < least → first_run_of (overlaps (run_of low high)) rs ≡ none
  over_none n least [] s q = first-nil (overlaps (run_of low high))
  over_none n least (r ∷ rs) s q =
      first_out (overlaps (run_of low high)) r rs (over-high r (omega (arith, s.0, s.1)) (omega (arith, s.0))) ∙ over_none n (r.high + 2) rs s.3 (omega (arith, s.0, s.1))

  pub over-found : (n least : ℕ) (rs : List Run) → Separated n least rs → Begun high (first_run_of (reaches low) rs) → first_run_of (overlaps (run_of low high)) rs
      ≡ first_run_of (reaches low) rs
  over-found n least [] s t = absurd (subst (Begun high) (first-nil (reaches low)) t)
  over-found n least (r ∷ rs) s t =
      ⊎_elim
      (λ (q : low ≤ r.high).
      let e = first-in (reaches low) r rs (le-leb low r.high q) in
      first-in (overlaps (run_of low high)) r rs (over_yes r q (subst (Begun high) e t)) ∙ sym e)
      (λ (q : r.high < low).
      let e = first_out (reaches low) r rs (lt-leb low r.high q) in
      first_out (overlaps (run_of low high)) r rs (over-low r q) ∙ over-found n (r.high + 2) rs s.3 (subst (Begun high) e t) ∙ sym e)
      (le_or_lt low r.high)

  pub over-not : (n least : ℕ) (rs : List Run) → Separated n least rs → Behind high (first_run_of (reaches low) rs) → first_run_of (overlaps (run_of low high)) rs ≡ none
  over-not n least [] s t = first-nil (overlaps (run_of low high))
  over-not n least (r ∷ rs) s t =
      ⊎_elim
      (λ (q : low ≤ r.high).
      let b : high < r.low = subst (Behind high) (first-in (reaches low) r rs (le-leb low r.high q)) t in
      over_none n r.low (r ∷ rs) (omega arith, s.1, s.2, s.3) b)
      (λ (q : r.high < low).
      first_out (overlaps (run_of low high)) r rs (over-low r q) ∙ over-not n (r.high + 2) rs s.3 (subst (Behind high) (first_out (reaches low) r rs (lt-leb low r.high q)) t))
      (le_or_lt low r.high)

  -- no overlap: what reaches `low` begins above `high`
  abbrev Some : Found → Type 0
  Some none = ⊥
  Some (found x) = Unit {0}

  clash : (r : Run) → found r ≡ none → ⊥
  clash r p = subst Some p tt

  no-over : (r : Run) (rs : List Run) → first_run_of (overlaps (run_of low high)) (r ∷ rs) ≡ none → low ≤ r.high → high < r.low
  no-over r rs e q =
      ⊎_elim
      (λ (u : r.low ≤ high). absurd (clash r (sym (first-in (overlaps (run_of low high)) r rs (over_yes r q u)) ∙ e)))
      (λ (u : high < r.low). u)
      (le_or_lt r.low high)

  module _ (some : 1 ≤ low) where
    next_low : (r : Run) → r.high + 1 ≡ low → adjacent (run_of low high) r ≡ true
    next_low r p = let w = eq-eqb low (r.high + 1) (sym p) in rw w refl

    next-high : (r : Run) → (low ≡ r.high + 1 → ⊥) → r.low ≡ high + 1 → adjacent (run_of low high) r ≡ true
    next-high r p q = let w = ne_eqb low (r.high + 1) p in let v = eq-eqb r.low (high + 1) q in rw (w, v) refl

    next-no : (r : Run) → (low ≡ r.high + 1 → ⊥) → (r.low ≡ high + 1 → ⊥) → adjacent (run_of low high) r ≡ false
    next-no r p q = let w = ne_eqb low (r.high + 1) p in let v = ne_eqb r.low (high + 1) q in rw (w, v) refl

    next-none : (n least : ℕ) (rs : List Run) → Separated n least rs → high + 1 < least → first_run_of (adjacent (run_of low high)) rs ≡ none
    next-none n least [] s q = first-nil (adjacent (run_of low high))
    next-none n least (r ∷ rs) s q =
        first_out (adjacent (run_of low high)) r rs (next-no r (λ e. omega (arith, s.0, s.1)) (λ e. omega (arith, s.0))) ∙ next-none n (r.high + 2) rs s.3 (omega (arith, s.0, s.1))

    pub next-found : (n least : ℕ) (rs : List Run) → Separated n least rs → first_run_of (overlaps (run_of low high)) rs ≡ none
        → Next low high (first_run_of (reaches (low - 1)) rs) → first_run_of (adjacent (run_of low high)) rs ≡ first_run_of (reaches (low - 1)) rs
    next-found n least [] s o t = absurd (subst (Next low high) (first-nil (reaches (low - 1))) t)
    next-found n least (r ∷ rs) s o t =
        ⊎_elim
        (λ (q : low - 1 ≤ r.high).
        let e = first-in (reaches (low - 1)) r rs (le-leb (low - 1) r.high q) in
        let u : (r.high < low) ⊎ (r.low ≤ high + 1) = subst (Next low high) e t in
        first-in (adjacent (run_of low high)) r rs (here q u) ∙ sym e)
        (λ (q : r.high < low - 1).
        let e = first_out (reaches (low - 1)) r rs (lt-leb (low - 1) r.high q) in
        let f = first_out (overlaps (run_of low high)) r rs (over-low r (omega arith)) in
        first_out (adjacent (run_of low high)) r rs (next-no r (λ x. omega arith) (λ x. omega (arith, s.1))) ∙ next-found n (r.high + 2) rs s.3 (sym f ∙ o) (subst (Next low high) e t)
        ∙ sym e)
        (le_or_lt (low - 1) r.high)
      where
        here : low - 1 ≤ r.high → (r.high < low) ⊎ (r.low ≤ high + 1) → adjacent (run_of low high) r ≡ true
        here q u =
            ⊎_elim
            (λ (v : low ≤ r.high).
            let w = no-over r rs o v in
            next-high r (λ x. omega arith) (⊎_elim (λ (x : r.high < low). absurd (omega arith)) (λ (x : r.low ≤ high + 1). omega arith) u))
            (λ (v : r.high < low). next_low r (omega arith))
            (le_or_lt low r.high)

    pub next-not : (n least : ℕ) (rs : List Run) → Separated n least rs → NotNext low high (first_run_of (reaches (low - 1)) rs) → first_run_of (adjacent (run_of low high)) rs ≡ none
    next-not n least [] s t = first-nil (adjacent (run_of low high))
    next-not n least (r ∷ rs) s t =
        ⊎_elim
        (λ (q : low - 1 ≤ r.high).
        let u : (low ≤ r.high) × (high + 1 < r.low) = subst (NotNext low high) (first-in (reaches (low - 1)) r rs (le-leb (low - 1) r.high q)) t in
        next-none n r.low (r ∷ rs) (omega arith, s.1, s.2, s.3) u.1)
        (λ (q : r.high < low - 1).
        let e = first_out (reaches (low - 1)) r rs (lt-leb (low - 1) r.high q) in
        first_out (adjacent (run_of low high)) r rs (next-no r (λ x. omega arith) (λ x. omega (arith, s.1))) ∙ next-not n (r.high + 2) rs s.3 (subst (NotNext low high) e t))
        (le_or_lt (low - 1) r.high)

-- ---- whether a run is stored

module _ (low high : ℕ) where
  abbrev pub Is : Found → Type 0
  Is none = ⊥
  Is (found r) = (r.low ≡ low) × (r.high ≡ high)

  abbrev pub IsNot : Found → Type 0
  IsNot none = Unit {0}
  IsNot (found r) = (r.low ≡ low → ⊥) ⊎ (r.high ≡ high → ⊥)

  stored-in : (r : Run) (rs : List Run) → r.low ≡ low → r.high ≡ high → stored (r ∷ rs) (run_of low high) ≡ true
  unfolding stored
  stored-in r rs p q = rw (eq-eqb low r.low (sym p), eq-eqb high r.high (sym q), stored) refl

  stored_low : (r : Run) (rs : List Run) → (r.low ≡ low → ⊥) → stored (r ∷ rs) (run_of low high) ≡ stored rs (run_of low high)
  unfolding stored
  stored_low r rs p = rw (ne_eqb low r.low (λ e. p (sym e)), stored) refl

  and_no : (b : Bool) → (b && false) ≡ false
  and_no true = refl
  and_no false = refl

  stored-high : (r : Run) (rs : List Run) → (r.high ≡ high → ⊥) → stored (r ∷ rs) (run_of low high) ≡ stored rs (run_of low high)
  unfolding stored
  stored-high r rs p = rw (ne_eqb high r.high (λ e. p (sym e)), and_no (eqb low r.low), stored) refl

  stored-none : (n least : ℕ) (rs : List Run) → Separated n least rs → high < least → stored rs (run_of low high) ≡ false
  unfolding stored
  stored-none n least [] s q = refl
  stored-none n least (r ∷ rs) s q = stored-high r rs (λ e. omega (arith, s.0, s.1)) ∙ stored-none n (r.high + 2) rs s.3 (omega (arith, s.0, s.1))

  pub stored-yes : (n least : ℕ) (rs : List Run) → Separated n least rs → Is (first_run_of (reaches high) rs) → stored rs (run_of low high) ≡ true
  stored-yes n least [] s t = absurd (subst Is (first-nil (reaches high)) t)
  stored-yes n least (r ∷ rs) s t =
      ⊎_elim
      (λ (q : high ≤ r.high).
      let u : (r.low ≡ low) × (r.high ≡ high) = subst Is (first-in (reaches high) r rs (le-leb high r.high q)) t in
      stored-in r rs u.0 u.1)
      (λ (q : r.high < high). stored-high r rs (λ e. omega arith) ∙ stored-yes n (r.high + 2) rs s.3 (subst Is (first_out (reaches high) r rs (lt-leb high r.high q)) t))
      (le_or_lt high r.high)

  pub stored_no : (n least : ℕ) (rs : List Run) → Separated n least rs → IsNot (first_run_of (reaches high) rs) → stored rs (run_of low high) ≡ false
  unfolding stored
  stored_no n least [] s t = refl
  stored_no n least (r ∷ rs) s t =
      ⊎_elim
      (λ (q : high ≤ r.high).
      let u : (r.low ≡ low → ⊥) ⊎ (r.high ≡ high → ⊥) = subst IsNot (first-in (reaches high) r rs (le-leb high r.high q)) t in
      ⊎_elim (λ v. stored_low r rs v) (λ v. stored-high r rs v) u ∙ stored-none n (r.high + 2) rs s.3 (omega arith))
      (λ (q : r.high < high). stored-high r rs (λ e. omega arith) ∙ stored_no n (r.high + 2) rs s.3 (subst IsNot (first_out (reaches high) r rs (lt-leb high r.high q)) t))
      (le_or_lt high r.high)
