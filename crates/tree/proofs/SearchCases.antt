-- Cases of `tree_search` and of the run that a call is handed.
use Rattle.model.proofs.Prelude.{ℕ, ◌≤◌, ◌<◌, ◌^◌, ◌≡◌, ◌∙◌, ap, refl, sym, subst, ap₂, true, Bool, false, ◌&&◌, not, List, [], ◌∷◌, length, leb, T}
use Rattle.model.proofs.Prelude.{le-leb, lt-leb, not-true, not-false, leb-true}
use Rattle.model.specs.Base.{refused, value, ◌then◌, checks}
use Rattle.model.specs.Runs.{Run}
use Rattle.tree_words.specs.TreeLayout.{run_in_of, tree_runs, sound_words_of}
use Rattle.tree_words.specs.Calls.{Found, none, found, first_run_of, or_else, overlaps, adjacent, search_runs_of, search_call, run_legal_of, run_rule, run_of}
use Rattle.tree_lookup.specs.Lookup.{FoundAt}
use Rattle.tree.proofs.TreeCallCases.{then-short, then-bad, then-pass}

-- ---- search

module _ (ws : List ℕ) (x : Run) where
  module _ (r : ℕ) (a : FoundAt ws (first_run_of (overlaps x) (tree_runs ws)) r) where
    pub search_over : (r ≡ 0 → ⊥) → (v : Run) → v ≡ run_in_of ws r → found v ≡ search_runs_of (tree_runs ws) x
    unfolding search_runs_of
    search_over n v e = ap found e ∙ sym (ap (λ (f : Found). or_else f (first_run_of (adjacent x) (tree_runs ws))) (a.present n))

    pub search_clear : r ≡ 0 → first_run_of (overlaps x) (tree_runs ws) ≡ none
    search_clear z = a.absent z

    module _ (z : r ≡ 0) (q : ℕ) (b : FoundAt ws (first_run_of (adjacent x) (tree_runs ws)) q) where
      pub search_near : (q ≡ 0 → ⊥) → (v : Run) → v ≡ run_in_of ws q → found v ≡ search_runs_of (tree_runs ws) x
      unfolding search_runs_of
      search_near n v e = ap found e ∙ sym (ap₂ (λ (f g : Found). or_else f g) (a.absent z) (b.present n))

      pub search_none : q ≡ 0 → none ≡ search_runs_of (tree_runs ws) x
      unfolding search_runs_of
      search_none y = sym (ap₂ (λ (f g : Found). or_else f g) (a.absent z) (b.absent y))

-- ---- the call

module _ (low high : ℕ) where
  pub legal-zero : low < 1 → false ≡ run_legal_of (run_of low high)
  unfolding run_legal_of
  legal-zero q = let w = lt-leb 1 low q in rw w refl

  module _ (p : 1 ≤ low) where
    pub legal-order : high < low → false ≡ run_legal_of (run_of low high)
    unfolding run_legal_of
    legal-order q = let w = le-leb 1 low p in let v = lt-leb low high q in rw (w, v) refl

    pub legal-most : low ≤ high → leb high (2 ^ 62) ≡ run_legal_of (run_of low high)
    unfolding run_legal_of
    legal-most q = let w = le-leb 1 low p in let v = le-leb low high q in rw (w, v) refl

  module _ (t : Bool) (e : t ≡ run_legal_of (run_of low high)) (n : not t ≡ false) where
    three-true : (a b c : Bool) → (a && b && c) ≡ true → (a ≡ true) × (b ≡ true) × (c ≡ true)
    three-true true true true q = (refl, refl, refl)
    three-true true true false q = (refl, refl, q)
    three-true true false c q = (refl, q, absurd (subst T (sym q) tt))
    three-true false b c q = (q, absurd (subst T (sym q) tt), absurd (subst T (sym q) tt))

    parts : (leb 1 low ≡ true) × (leb low high ≡ true) × (leb high (2 ^ 62) ≡ true)
    unfolding run_legal_of
    parts = three-true (leb 1 low) (leb low high) (leb high (2 ^ 62)) (sym e ∙ not-false t n)

    pub legal-low : 1 ≤ low
    legal-low = leb-true 1 low parts.0

    pub legal-both : low ≤ high
    legal-both = leb-true low high parts.1

    pub legal-high : high ≤ 2 ^ 62
    legal-high = leb-true high (2 ^ 62) parts.2

module _ (ws : List ℕ) (x : Run) where
  pub search_short : length ws < 32768 → refused 87 ≡ search_call ws x
  unfolding search_call
  search_short q = then-short ws (run_rule x ∷ []) (value (search_runs_of (tree_runs ws) x)) q

  module _ (p : 32768 ≤ length ws) (t : Bool) (e : t ≡ sound_words_of ws) where
    pub search_bad : not t ≡ true → refused 88 ≡ search_call ws x
    unfolding search_call
    search_bad q = then-bad ws (run_rule x ∷ []) (value (search_runs_of (tree_runs ws) x)) p (sym e ∙ not-true t q)

    module _ (q : not t ≡ false) (u : Bool) (eu : u ≡ run_legal_of x) where
      passed : search_call ws x ≡ (checks (run_rule x ∷ []) then value (search_runs_of (tree_runs ws) x))
      unfolding search_call
      passed = then-pass ws (run_rule x ∷ []) (value (search_runs_of (tree_runs ws) x)) p (sym e ∙ not-false t q)

      pub search_range : not u ≡ true → refused 41 ≡ search_call ws x
      search_range z = let w = sym eu ∙ not-true u z in sym (passed ∙ rw w refl)

      pub search_taken : not u ≡ false → (v : Found) → v ≡ search_runs_of (tree_runs ws) x → value v ≡ search_call ws x
      search_taken z v f = let w = sym eu ∙ not-false u z in ap value f ∙ sym (passed ∙ rw w refl)
