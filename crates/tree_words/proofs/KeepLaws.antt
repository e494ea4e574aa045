-- Laws of the runs kept below and above a run.
use Rattle.model.proofs.Prelude.{ℕ, ◌≤◌, ◌<◌, ◌+◌, suc, ◌≡◌, ◌∙◌, ap, refl, sym, subst, ⊎_elim, List, [], ◌∷◌, ◌++◌, append-nil, arith, lt-ltb}
use Rattle.model.proofs.Prelude.{le-ltb}
use Rattle.model.specs.Runs.{Run, Separated}
use Rattle.model.proofs.BoolLaws.{le_or_lt}
use Rattle.model.proofs.RunLaws.{separated_weaken}
use Rattle.tree_words.specs.TreeLayout.{low_at_of, high_at_of, child1, child2, child3, leaves_at}
use Rattle.tree_words.specs.Nodes.{Good, good-leaf, good-two, good-three, Sep}
use Rattle.tree_words.specs.KeptRuns.{keep_below, keep_above}
use Rattle.tree_words.proofs.NodeLaws.{good-bounds, leaves-leaf, leaves-two, leaves-three}
use Rattle.tree_words.proofs.SepLaws.{good-then}

-- every run lies within lo..hi
abbrev pub Within : ℕ → ℕ → List Run → Type 0
Within lo hi [] = Unit {0}
Within lo hi (r ∷ rs) = (lo ≤ r.low) × (r.low ≤ r.high) × (r.high ≤ hi) × Within lo hi rs

within_wider : (lo hi lo' hi' : ℕ) (rs : List Run) → lo' ≤ lo → hi ≤ hi' → Within lo hi rs → Within lo' hi' rs
within_wider lo hi lo' hi' [] p q w = tt
within_wider lo hi lo' hi' (r ∷ rs) p q w = (omega (arith, w.0), w.1, omega (arith, w.2), within_wider lo hi lo' hi' rs p q w.3)

within-append : (lo hi : ℕ) (xs ys : List Run) → Within lo hi xs → Within lo hi ys → Within lo hi (xs ++ ys)
within-append lo hi [] ys p q = q
within-append lo hi (x ∷ xs) ys p q = (p.0, p.1, p.2, within-append lo hi xs ys p.3 q)

module _ {ws : List ℕ} {start free : ℕ} where
  pub good-within : {h a : ℕ} → Good ws start free h a → Within (low_at_of ws a) (high_at_of ws a) (leaves_at ws h a)
  good-within {a = a} (good-leaf t) = rw (leaves-leaf ws a) (omega arith, t.order, omega arith, tt)
  good-within {h = suc h} {a = a} (good-two t b c) =
      let p = good-bounds b in
      let q = good-bounds c in
      rw (leaves-two ws h a t.no_third)
      (within-append (low_at_of ws a) (high_at_of ws a) (leaves_at ws h (child1 ws a)) (leaves_at ws h (child2 ws a))
      (within_wider (low_at_of ws (child1 ws a)) (high_at_of ws (child1 ws a)) (low_at_of ws a) (high_at_of ws a) (leaves_at ws h (child1 ws a)) (omega (arith, t.low))
      (omega (arith, t.high, t.apart, q.order)) (good-within b))
      (within_wider (low_at_of ws (child2 ws a)) (high_at_of ws (child2 ws a)) (low_at_of ws a) (high_at_of ws a) (leaves_at ws h (child2 ws a)) (omega (arith, t.low, t.apart, p.order))
      (omega (arith, t.high)) (good-within c)))
  good-within {h = suc h} {a = a} (good-three t b c d) =
      let p = good-bounds b in
      let q = good-bounds c in
      let r = good-bounds d in
      rw (leaves-three ws h a t.some_third)
      (within-append (low_at_of ws a) (high_at_of ws a) (leaves_at ws h (child1 ws a)) (leaves_at ws h (child2 ws a) ++ leaves_at ws h (child3 ws a))
      (within_wider (low_at_of ws (child1 ws a)) (high_at_of ws (child1 ws a)) (low_at_of ws a) (high_at_of ws a) (leaves_at ws h (child1 ws a)) (omega (arith, t.low))
      (omega (arith, t.high, t.apart, t.apart2, q.order, r.order)) (good-within b))
      (within-append (low_at_of ws a) (high_at_of ws a) (leaves_at ws h (child2 ws a)) (leaves_at ws h (child3 ws a))
      (within_wider (low_at_of ws (child2 ws a)) (high_at_of ws (child2 ws a)) (low_at_of ws a) (high_at_of ws a) (leaves_at ws h (child2 ws a)) (omega (arith, t.low, t.apart, p.order))
      (omega (arith, t.high, t.apart2, r.order)) (good-within c))
      (within_wider (low_at_of ws (child3 ws a)) (high_at_of ws (child3 ws a)) (low_at_of ws a) (high_at_of ws a) (leaves_at ws h (child3 ws a)) (omega (arith, t.low, t.apart, t.apart2, p.order, q.order))
      (omega (arith, t.high)) (good-within d))))

  pub good-sep : {h a : ℕ} → Good ws start free h a → Sep (leaves_at ws h a)
  good-sep {h} {a} g = subst (λ (l : List Run). Sep l) (append-nil (leaves_at ws h a)) (good-then g 1 [] (good-bounds g).least tt)

-- ---- below

pub below_in : (low : ℕ) (r : Run) (rs : List Run) → r.high + 1 < low → keep_below low (r ∷ rs) ≡ r ∷ keep_below low rs
unfolding keep_below
below_in low r rs q = rw (lt-ltb (r.high + 1) low q, keep_below) refl

pub below_out : (low : ℕ) (r : Run) (rs : List Run) → low ≤ r.high + 1 → keep_below low (r ∷ rs) ≡ keep_below low rs
unfolding keep_below
below_out low r rs q = rw (le-ltb (r.high + 1) low q, keep_below) refl

pub below-nil : (low : ℕ) → keep_below low [] ≡ []
unfolding keep_below
below-nil low = refl

pub below-append : (low : ℕ) (xs ys : List Run) → keep_below low (xs ++ ys) ≡ keep_below low xs ++ keep_below low ys
below-append low [] ys = rw (below-nil low) refl
below-append low (x ∷ xs) ys =
    ⊎_elim
    (λ (q : low ≤ x.high + 1). below_out low x (xs ++ ys) q ∙ below-append low xs ys ∙ ap (λ (l : List Run). l ++ keep_below low ys) (sym (below_out low x xs q)))
    (λ (q : x.high + 1 < low). below_in low x (xs ++ ys) q ∙ ap (λ (l : List Run). x ∷ l) (below-append low xs ys) ∙ ap (λ (l : List Run). l ++ keep_below low ys)
    (sym (below_in low x xs q)))
    (le_or_lt low (x.high + 1))

pub below_all : (low lo hi : ℕ) (xs : List Run) → Within lo hi xs → hi + 1 < low → keep_below low xs ≡ xs
below_all low lo hi [] w q = below-nil low
below_all low lo hi (x ∷ xs) w q = below_in low x xs (omega (arith, w.2)) ∙ ap (λ (l : List Run). x ∷ l) (below_all low lo hi xs w.3 q)

pub below-no : (low lo hi : ℕ) (xs : List Run) → Within lo hi xs → low ≤ lo + 1 → keep_below low xs ≡ []
below-no low lo hi [] w q = below-nil low
below-no low lo hi (x ∷ xs) w q = below_out low x xs (omega (arith, w.0, w.1)) ∙ below-no low lo hi xs w.3 q

pub below-sep : (n least low : ℕ) (xs : List Run) → Separated n least xs → Separated n least (keep_below low xs)
below-sep n least low [] s = rw (below-nil low) tt
below-sep n least low (x ∷ xs) s =
    ⊎_elim
    (λ (q : low ≤ x.high + 1). rw (below_out low x xs q) (separated_weaken n (x.high + 2) least (keep_below low xs) (omega (arith, s.0, s.1)) (below-sep n (x.high + 2) low xs s.3)))
    (λ (q : x.high + 1 < low). rw (below_in low x xs q) (s.0, s.1, s.2, below-sep n (x.high + 2) low xs s.3))
    (le_or_lt low (x.high + 1))

-- ---- above

pub above_in : (high : ℕ) (r : Run) (rs : List Run) → high + 1 < r.low → keep_above high (r ∷ rs) ≡ r ∷ keep_above high rs
unfolding keep_above
above_in high r rs q = rw (lt-ltb (high + 1) r.low q, keep_above) refl

pub above-out : (high : ℕ) (r : Run) (rs : List Run) → r.low ≤ high + 1 → keep_above high (r ∷ rs) ≡ keep_above high rs
unfolding keep_above
above-out high r rs q = rw (le-ltb (high + 1) r.low q, keep_above) refl

pub above-nil : (high : ℕ) → keep_above high [] ≡ []
unfolding keep_above
above-nil high = refl

pub above-append : (high : ℕ) (xs ys : List Run) → keep_above high (xs ++ ys) ≡ keep_above high xs ++ keep_above high ys
above-append high [] ys = rw (above-nil high) refl
above-append high (x ∷ xs) ys =
    ⊎_elim
    (λ (q : x.low ≤ high + 1). above-out high x (xs ++ ys) q ∙ above-append high xs ys ∙ ap (λ (l : List Run). l ++ keep_above high ys) (sym (above-out high x xs q)))
    (λ (q : high + 1 < x.low). above_in high x (xs ++ ys) q ∙ ap (λ (l : List Run). x ∷ l) (above-append high xs ys) ∙ ap (λ (l : List Run). l ++ keep_above high ys)
    (sym (above_in high x xs q)))
    (le_or_lt x.low (high + 1))

pub above-all : (high lo hi : ℕ) (xs : List Run) → Within lo hi xs → high + 1 < lo → keep_above high xs ≡ xs
above-all high lo hi [] w q = above-nil high
above-all high lo hi (x ∷ xs) w q = above_in high x xs (omega (arith, w.0)) ∙ ap (λ (l : List Run). x ∷ l) (above-all high lo hi xs w.3 q)

pub above-no : (high lo hi : ℕ) (xs : List Run) → Within lo hi xs → hi ≤ high + 1 → keep_above high xs ≡ []
above-no high lo hi [] w q = above-nil high
above-no high lo hi (x ∷ xs) w q = above-out high x xs (omega (arith, w.1, w.2)) ∙ above-no high lo hi xs w.3 q

pub above-sep : (n least high : ℕ) (xs : List Run) → Separated n least xs → Separated n least (keep_above high xs)
above-sep n least high [] s = rw (above-nil high) tt
above-sep n least high (x ∷ xs) s =
    ⊎_elim
    (λ (q : x.low ≤ high + 1). rw (above-out high x xs q) (separated_weaken n (x.high + 2) least (keep_above high xs) (omega (arith, s.0, s.1)) (above-sep n (x.high + 2) high xs s.3)))
    (λ (q : high + 1 < x.low). rw (above_in high x xs q) (s.0, s.1, s.2, above-sep n (x.high + 2) high xs s.3))
    (le_or_lt x.low (high + 1))
