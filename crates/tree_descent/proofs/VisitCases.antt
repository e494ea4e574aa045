-- Cases of the descent to a number: it lies below the node exactly where it lies below the child that is visited.
use Rattle.model.proofs.Prelude.{ℕ, ◌≤◌, ◌<◌, ◌+◌, ◌-◌, suc, ◌^◌, zero, ◌≡◌, ◌∙◌, ap, refl, sym, ⊎_elim, ◌⊎◌, Bool, false, ◌||◌, or-false}
use Rattle.model.proofs.Prelude.{or_assoc, List, [], ◌∷◌, ◌++◌, length, leb, arith, le-leb, lt-leb, ne_eqb, eq-eqb, lt-ltb, le-ltb}
use Rattle.model.specs.Runs.{Run, in_run, in_runs}
use Rattle.model.proofs.BoolLaws.{le_or_lt, not→false}
use Rattle.model.proofs.RunLaws.{In, in→, in_append}
use Rattle.tree_words.specs.TreeLayout.{low_at_of, high_at_of, second_at_of, third_at, child1, child2, child3, run_in_of, leaves_at}
use Rattle.tree_words.specs.Nodes.{Good, good-leaf, good-two, good-three}
use Rattle.tree_words.specs.Ways.{child_for, way_from}
use Rattle.tree_words.proofs.NodeLaws.{good-bounds, leaves-leaf, leaves-two, leaves-three}
use Rattle.tree_words.proofs.ChildLaws.{good-up, level_up}
use Rattle.tree_words.proofs.WayLaws.{leaf_for, way_long, leaf-here, leaf-step}

-- ---- the child to visit

module _ (ws : List ℕ) (a k : ℕ) where
  pub for_first : k < second_at_of ws a → child_for ws a k ≡ child1 ws a
  unfolding child_for
  for_first p = rw (lt-ltb k (second_at_of ws a) p, child_for) refl

  module _ (p : second_at_of ws a ≤ k) where
    pub for_second : child3 ws a ≡ 0 → child_for ws a k ≡ child2 ws a
    unfolding child_for
    for_second z = rw (le-ltb k (second_at_of ws a) p, eq-eqb (child3 ws a) 0 z, child_for) refl

    module _ (some : child3 ws a ≡ 0 → ⊥) where
      pub for_middle : k < third_at ws a → child_for ws a k ≡ child2 ws a
      unfolding child_for
      for_middle q = rw (le-ltb k (second_at_of ws a) p, ne_eqb (child3 ws a) 0 some, lt-ltb k (third_at ws a) q, child_for) refl

      pub for_third : third_at ws a ≤ k → child_for ws a k ≡ child3 ws a
      unfolding child_for
      for_third q = rw (le-ltb k (second_at_of ws a) p, ne_eqb (child3 ws a) 0 some, le-ltb k (third_at ws a) q, child_for) refl

  pub next-first : (r : ℕ) → k < second_at_of ws a → r ≡ child1 ws a → r ≡ child_for ws a k
  next-first r p e = e ∙ sym (for_first p)

  module _ (t r : ℕ) (p : second_at_of ws a ≤ k) (et : t ≡ child3 ws a) where
    pub next-second : t ≡ 0 → r ≡ child2 ws a → r ≡ child_for ws a k
    next-second z e = e ∙ sym (for_second p (sym et ∙ z))

    pub next-middle : (t ≡ 0 → ⊥) → k < third_at ws a → r ≡ child2 ws a → r ≡ child_for ws a k
    next-middle s q e = e ∙ sym (for_middle p (λ y. s (et ∙ y)) q)

  pub next-third : (t : ℕ) → second_at_of ws a ≤ k → t ≡ child3 ws a → (t ≡ 0 → ⊥) → third_at ws a ≤ k → t ≡ child_for ws a k
  next-third t p et s q = et ∙ sym (for_third p (λ y. s (et ∙ y)) q)

-- ---- numbers below a node

pub runs_append : (xs ys : List Run) (j : ℕ) → in_runs (xs ++ ys) j ≡ in_runs xs j || in_runs ys j
unfolding in_runs
runs_append [] ys j = refl
runs_append (x ∷ xs) ys j = ap (λ (t : Bool). in_run x j || t) (runs_append xs ys j) ∙ sym (or_assoc (in_run x j) (in_runs xs j) (in_runs ys j))

module _ {ws : List ℕ} {start free : ℕ} where
  pub good-in : {h a : ℕ} → Good ws start free h a → (j : ℕ) → In (leaves_at ws h a) j → (low_at_of ws a ≤ j) × (j ≤ high_at_of ws a)
  good-in {a = a} (good-leaf t) j m = ⊎_elim (λ u. u) absurd (rw (leaves-leaf ws a) at m)
  good-in {h = suc h} {a = a} (good-two t b c) j m =
      let p = good-bounds b in
      let q = good-bounds c in
      ⊎_elim
      (λ u. let v = good-in b j u in (omega (arith, t.low, v.0), omega (arith, t.high, t.apart, q.order, v.1)))
      (λ u. let v = good-in c j u in (omega (arith, t.low, t.apart, p.order, v.0), omega (arith, t.high, v.1)))
      (in_append (leaves_at ws h (child1 ws a)) (leaves_at ws h (child2 ws a)) j (rw (leaves-two ws h a t.no_third) at m))
  good-in {h = suc h} {a = a} (good-three t b c d) j m =
      let p = good-bounds b in
      let q = good-bounds c in
      let r = good-bounds d in
      ⊎_elim
      (λ u. let v = good-in b j u in (omega (arith, t.low, v.0), omega (arith, t.high, t.apart, t.apart2, q.order, r.order, v.1)))
      (λ n.
      ⊎_elim
      (λ u. let v = good-in c j u in (omega (arith, t.low, t.apart, p.order, v.0), omega (arith, t.high, t.apart2, r.order, v.1)))
      (λ u. let v = good-in d j u in (omega (arith, t.low, t.apart, t.apart2, p.order, q.order, v.0), omega (arith, t.high, v.1)))
      (in_append (leaves_at ws h (child2 ws a)) (leaves_at ws h (child3 ws a)) j n))
      (in_append (leaves_at ws h (child1 ws a)) (leaves_at ws h (child2 ws a) ++ leaves_at ws h (child3 ws a)) j (rw (leaves-three ws h a t.some_third) at m))

  below : {h a : ℕ} → Good ws start free h a → (k : ℕ) → k < low_at_of ws a → in_runs (leaves_at ws h a) k ≡ false
  below {h} {a} g k q = not→false (in_runs (leaves_at ws h a) k) (λ t. let v = good-in g k (in→ (leaves_at ws h a) k t) in omega (arith, v.0))

  above : {h a : ℕ} → Good ws start free h a → (k : ℕ) → high_at_of ws a < k → in_runs (leaves_at ws h a) k ≡ false
  above {h} {a} g k q = not→false (in_runs (leaves_at ws h a) k) (λ t. let v = good-in g k (in→ (leaves_at ws h a) k t) in omega (arith, v.1))

  pub good-for : {h a : ℕ} (k : ℕ) → Good ws start free (suc h) a → Good ws start free h (child_for ws a k)
  good-for {h} {a} k (good-two t b c) =
      ⊎_elim
      (λ (p : second_at_of ws a ≤ k). rw (for_second ws a k p t.no_third) c)
      (λ (p : k < second_at_of ws a). rw (for_first ws a k p) b)
      (le_or_lt (second_at_of ws a) k)
  good-for {h} {a} k (good-three t b c d) =
      ⊎_elim
      (λ (p : second_at_of ws a ≤ k).
      ⊎_elim
      (λ (q : third_at ws a ≤ k). rw (for_third ws a k p t.some_third q) d)
      (λ (q : k < third_at ws a). rw (for_middle ws a k p t.some_third q) c)
      (le_or_lt (third_at ws a) k))
      (λ (p : k < second_at_of ws a). rw (for_first ws a k p) b)
      (le_or_lt (second_at_of ws a) k)

  pub in_for : {h a : ℕ} (k : ℕ) → Good ws start free (suc h) a → in_runs (leaves_at ws h (child_for ws a k)) k ≡ in_runs (leaves_at ws (suc h) a) k
  in_for {h} {a} k (good-two t b c) =
      let e = ap (λ (l : List Run). in_runs l k) (leaves-two ws h a t.no_third) ∙ runs_append (leaves_at ws h (child1 ws a)) (leaves_at ws h (child2 ws a)) k in
      ⊎_elim
      (λ (p : second_at_of ws a ≤ k).
      let w = above b k (omega (arith, t.second, t.apart)) in
      rw (for_second ws a k p t.no_third) (sym (e ∙ rw w refl)))
      (λ (p : k < second_at_of ws a).
      let w = below c k (omega (arith, t.second)) in
      rw (for_first ws a k p) (sym (e ∙ rw w (or-false (in_runs (leaves_at ws h (child1 ws a)) k)))))
      (le_or_lt (second_at_of ws a) k)
  in_for {h} {a} k (good-three t b c d) =
      let bc = good-bounds c in
      let e =
      ap (λ (l : List Run). in_runs l k) (leaves-three ws h a t.some_third)
      ∙ runs_append (leaves_at ws h (child1 ws a)) (leaves_at ws h (child2 ws a) ++ leaves_at ws h (child3 ws a)) k
      ∙ ap (λ (x : Bool). in_runs (leaves_at ws h (child1 ws a)) k || x) (runs_append (leaves_at ws h (child2 ws a)) (leaves_at ws h (child3 ws a)) k) in
      ⊎_elim
      (λ (p : second_at_of ws a ≤ k).
      let w = above b k (omega (arith, t.second, t.apart)) in
      ⊎_elim
      (λ (q : third_at ws a ≤ k).
      let v = above c k (omega (arith, t.third, t.apart2)) in
      rw (for_third ws a k p t.some_third q) (sym (e ∙ rw (w, v) refl)))
      (λ (q : k < third_at ws a).
      let v = below d k (omega (arith, t.third)) in
      rw (for_middle ws a k p t.some_third q) (sym (e ∙ rw (w, v) (or-false (in_runs (leaves_at ws h (child2 ws a)) k)))))
      (le_or_lt (third_at ws a) k))
      (λ (p : k < second_at_of ws a).
      let w = below c k (omega (arith, t.second)) in
      let v = below d k (omega (arith, t.second, t.apart2, bc.order)) in
      rw (for_first ws a k p) (sym (e ∙ rw (w, v) (or-false (in_runs (leaves_at ws h (child1 ws a)) k)))))
      (le_or_lt (second_at_of ws a) k)

  step : {h a : ℕ} (k : ℕ) → Good ws start free (suc h) a
      → in_runs (leaves_at ws h (child_for ws a k)) k ≡ in_run (run_in_of ws (leaf_for ws h (child_for ws a k) k)) k
      → in_runs (leaves_at ws (suc h) a) k ≡ in_run (run_in_of ws (leaf_for ws (suc h) a k)) k
  step {h} {a} k g e = sym (in_for k g) ∙ e ∙ sym (ap (λ (x : ℕ). in_run (run_in_of ws x) k) (leaf-step ws a k h))

  -- the leaf at the end of the way answers for the number
  pub leaf-answers : (h a k : ℕ) → Good ws start free h a → in_runs (leaves_at ws h a) k ≡ in_run (run_in_of ws (leaf_for ws h a k)) k
  unfolding in_runs
  leaf-answers zero a k g =
      ap (λ (l : List Run). in_runs l k) (leaves-leaf ws a) ∙ or-false (in_run (run_in_of ws a) k) ∙ sym (ap (λ (x : ℕ). in_run (run_in_of ws x) k) (leaf-here ws a k))
  leaf-answers (suc h) a k g = step k g (leaf-answers h (child_for ws a k) k (good-for k g))

-- ---- the code's steps

module _ (ws : List ℕ) (start free h a k : ℕ) (g : Good ws start free h a) where
  pub visit_end : free ≤ length ws → a + 3 ≤ length ws
  visit_end q = omega (arith, (good-bounds g).ended)

  pub visit_leaf : h ≡ 0 → (r : Bool) → r ≡ in_run (run_in_of ws a) k → r ≡ in_runs (leaves_at ws h a) k
  unfolding in_runs
  visit_leaf z r e =
      e ∙ sym (or-false (in_run (run_in_of ws a) k)) ∙ sym (ap (λ (l : List Run). in_runs l k) (ap (λ (x : ℕ). leaves_at ws x a) z ∙ leaves-leaf ws a))

  pub visit_one : h ≡ 0 → 1 ≡ length (way_from ws h a k)
  visit_one z = omega (arith, way_long ws h a k)

  module _ (ne : h ≡ 0 → ⊥) (x : ℕ) (ex : x ≡ child_for ws a k) where
    pub visit_good : Good ws start free (h - 1) x
    visit_good = rw ex (good-for k (good-up h ne g))

    pub visit_held : (r : Bool) → r ≡ in_runs (leaves_at ws (h - 1) x) k → r ≡ in_runs (leaves_at ws h a) k
    visit_held r e =
        e ∙ ap (λ (y : ℕ). in_runs (leaves_at ws (h - 1) y) k) ex ∙ in_for k (good-up h ne g)
        ∙ sym (ap (λ (y : ℕ). in_runs (leaves_at ws y a) k) (level_up h ne))

    module _ (v : ℕ) (e : v ≡ length (way_from ws (h - 1) x k)) where
      pub visit_count : v + 1 ≡ length (way_from ws h a k)
      visit_count = omega (arith, level_up h ne, way_long ws (h - 1) x k, way_long ws h a k)

      pub visit_few : h ≤ 10 → v + 1 < 2 ^ 64
      visit_few q = omega (arith, level_up h ne, way_long ws (h - 1) x k)

module _ (ws : List ℕ) (a k : ℕ) where
  pub leaf-both : low_at_of ws a ≤ k → leb k (high_at_of ws a) ≡ in_run (run_in_of ws a) k
  leaf-both p = let w = le-leb (low_at_of ws a) k p in rw w refl

  pub leaf_first : k < low_at_of ws a → leb (low_at_of ws a) k ≡ in_run (run_in_of ws a) k
  leaf_first p = let w = lt-leb (low_at_of ws a) k p in rw w refl
