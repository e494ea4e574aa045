-- Cases of `first_reaching` and `last_starting`.
use Rattle.model.proofs.Prelude.{ℕ, ◌≤◌, ◌<◌, ◌-◌, suc, ◌≡◌, ◌∙◌, ap, refl, sym, subst, ⊎_elim, List, [], ◌++◌, length, arith, le-leb, lt-leb, ne_eqb}
use Rattle.model.proofs.Prelude.{eq-eqb}
use Rattle.model.specs.Runs.{Run}
use Rattle.model.proofs.BoolLaws.{le_or_lt}
use Rattle.tree_words.specs.TreeLayout.{low_at_of, high_at_of, second_at_of, third_at, child1, child2, child3, run_in_of, leaves_at}
use Rattle.tree_words.specs.Calls.{found, first_run_of}
use Rattle.tree_words.specs.Nodes.{Good, good-two, good-three}
use Rattle.tree_words.specs.Ways.{child_for}
use Rattle.tree_descent.specs.Descent.{last_run, reaches, begins, child_reaching, Readable, Reaching, Starting}
use Rattle.tree_words.proofs.NodeLaws.{good-bounds, leaves-leaf, leaves-two, leaves-three}
use Rattle.tree_words.proofs.ChildLaws.{good-end8, good-1, good-2, good-up, level_up}
use Rattle.tree_words.proofs.KeepLaws.{good-within}
use Rattle.tree_descent.proofs.VisitCases.{for_first, for_second, for_middle, for_third}
use Rattle.tree_descent.proofs.FoundLaws.{first-in, first-left, first-right, last-in, last-nil, last-left, last-right, reach_no, begin_no}

-- ---- the child below which the first run that reaches a number lies

module _ (ws : List ℕ) (a x : ℕ) where
  reach_first : x ≤ high_at_of ws (child1 ws a) → child_reaching ws a x ≡ child1 ws a
  unfolding child_reaching
  reach_first p = rw (le-leb x (high_at_of ws (child1 ws a)) p, child_reaching) refl

  module _ (p : high_at_of ws (child1 ws a) < x) where
    reach_second : child3 ws a ≡ 0 → child_reaching ws a x ≡ child2 ws a
    unfolding child_reaching
    reach_second z = rw (lt-leb x (high_at_of ws (child1 ws a)) p, eq-eqb (child3 ws a) 0 z, child_reaching) refl

    module _ (some : child3 ws a ≡ 0 → ⊥) where
      reach_middle : x ≤ high_at_of ws (child2 ws a) → child_reaching ws a x ≡ child2 ws a
      unfolding child_reaching
      reach_middle q = rw (lt-leb x (high_at_of ws (child1 ws a)) p, ne_eqb (child3 ws a) 0 some, le-leb x (high_at_of ws (child2 ws a)) q, child_reaching) refl

      reach_third : high_at_of ws (child2 ws a) < x → child_reaching ws a x ≡ child3 ws a
      unfolding child_reaching
      reach_third q = rw (lt-leb x (high_at_of ws (child1 ws a)) p, ne_eqb (child3 ws a) 0 some, lt-leb x (high_at_of ws (child2 ws a)) q, child_reaching) refl

  module _ (f : ℕ) (ef : f ≡ child1 ws a) where
    pub to-first : x ≤ high_at_of ws f → f ≡ child_reaching ws a x
    to-first p = ef ∙ sym (reach_first (subst (λ (y : ℕ). x ≤ high_at_of ws y) ef p))

    module _ (p : high_at_of ws f < x) (s t : ℕ) (es : s ≡ child2 ws a) (et : t ≡ child3 ws a) where
      p' : high_at_of ws (child1 ws a) < x
      p' = subst (λ (y : ℕ). high_at_of ws y < x) ef p

      pub to-second : t ≡ 0 → s ≡ child_reaching ws a x
      to-second z = es ∙ sym (reach_second p' (sym et ∙ z))

      module _ (some : t ≡ 0 → ⊥) where
        pub to-middle : x ≤ high_at_of ws s → s ≡ child_reaching ws a x
        to-middle q = es ∙ sym (reach_middle p' (λ z. some (et ∙ z)) (subst (λ (y : ℕ). x ≤ high_at_of ws y) es q))

        pub to-third : high_at_of ws s < x → t ≡ child_reaching ws a x
        to-third q = et ∙ sym (reach_third p' (λ z. some (et ∙ z)) (subst (λ (y : ℕ). high_at_of ws y < x) es q))

-- ---- one level down

-- the child is sound, ends where it has to, and has the run that the node has
record Down (ws : List ℕ) (start free h a x c : ℕ) : Type 0 where
  good : Good ws start free h c
  high : x ≤ high_at_of ws c
  first : (s : Run) → first_run_of (reaches x) (leaves_at ws h c) ≡ found s → first_run_of (reaches x) (leaves_at ws (suc h) a) ≡ found s

record DownLast (ws : List ℕ) (start free h a x c : ℕ) : Type 0 where
  good : Good ws start free h c
  low : low_at_of ws c ≤ x
  last : (s : Run) → last_run (begins x) (leaves_at ws h c) ≡ found s → last_run (begins x) (leaves_at ws (suc h) a) ≡ found s

module _ {ws : List ℕ} {start free : ℕ} where
  down : {h a : ℕ} (x : ℕ) → x ≤ high_at_of ws a → Good ws start free (suc h) a → Down ws start free h a x (child_reaching ws a x)
  down {h} {a} x m (good-two t b c) =
      ⊎_elim
      (λ (p : x ≤ high_at_of ws (child1 ws a)).
      rw (reach_first ws a x p) (record {
        good = b;
        high = p;
        first = λ s e. ap (first_run_of (reaches x)) (leaves-two ws h a t.no_third) ∙ first-left (reaches x) s (leaves_at ws h (child1 ws a)) (leaves_at ws h (child2 ws a)) e;
      }))
      (λ (p : high_at_of ws (child1 ws a) < x).
      let n = reach_no x (low_at_of ws (child1 ws a)) (high_at_of ws (child1 ws a)) (leaves_at ws h (child1 ws a)) (good-within b) p in
      rw (reach_second ws a x p t.no_third) (record {
        good = c;
        high = omega (arith, t.high);
        first = λ s e. ap (first_run_of (reaches x)) (leaves-two ws h a t.no_third) ∙ first-right (reaches x) (leaves_at ws h (child1 ws a)) (leaves_at ws h (child2 ws a)) n ∙ e;
      }))
      (le_or_lt x (high_at_of ws (child1 ws a)))
  down {h} {a} x m (good-three t b c d) =
      ⊎_elim
      (λ (p : x ≤ high_at_of ws (child1 ws a)).
      rw (reach_first ws a x p) (record {
        good = b;
        high = p;
        first = λ s e. ap (first_run_of (reaches x)) (leaves-three ws h a t.some_third) ∙ first-left (reaches x) s (leaves_at ws h (child1 ws a))
            (leaves_at ws h (child2 ws a) ++ leaves_at ws h (child3 ws a)) e;
      }))
      (λ (p : high_at_of ws (child1 ws a) < x).
      let n = reach_no x (low_at_of ws (child1 ws a)) (high_at_of ws (child1 ws a)) (leaves_at ws h (child1 ws a)) (good-within b) p in
      let f = ap (first_run_of (reaches x)) (leaves-three ws h a t.some_third) ∙ first-right (reaches x) (leaves_at ws h (child1 ws a)) (leaves_at ws h (child2 ws a) ++ leaves_at ws h (child3 ws a))
      n in
      ⊎_elim
      (λ (q : x ≤ high_at_of ws (child2 ws a)).
      rw (reach_middle ws a x p t.some_third q) (record {
        good = c;
        high = q;
        first = λ s e. f ∙ first-left (reaches x) s (leaves_at ws h (child2 ws a)) (leaves_at ws h (child3 ws a)) e;
      }))
      (λ (q : high_at_of ws (child2 ws a) < x).
      let n2 = reach_no x (low_at_of ws (child2 ws a)) (high_at_of ws (child2 ws a)) (leaves_at ws h (child2 ws a)) (good-within c) q in
      rw (reach_third ws a x p t.some_third q) (record {
        good = d;
        high = omega (arith, t.high);
        first = λ s e. f ∙ first-right (reaches x) (leaves_at ws h (child2 ws a)) (leaves_at ws h (child3 ws a)) n2 ∙ e;
      }))
      (le_or_lt x (high_at_of ws (child2 ws a))))
      (le_or_lt x (high_at_of ws (child1 ws a)))

  down-last : {h a : ℕ} (x : ℕ) → low_at_of ws a ≤ x → Good ws start free (suc h) a → DownLast ws start free h a x (child_for ws a x)
  down-last {h} {a} x m (good-two t b c) =
      ⊎_elim
      (λ (p : second_at_of ws a ≤ x).
      rw (for_second ws a x p t.no_third) (record {
        good = c;
        low = omega (arith, t.second);
        last = λ s e. ap (last_run (begins x)) (leaves-two ws h a t.no_third) ∙ last-right (begins x) s (leaves_at ws h (child1 ws a)) (leaves_at ws h (child2 ws a)) e;
      }))
      (λ (p : x < second_at_of ws a).
      let n = begin_no x (low_at_of ws (child2 ws a)) (high_at_of ws (child2 ws a)) (leaves_at ws h (child2 ws a)) (good-within c) (omega (arith, t.second)) in
      rw (for_first ws a x p) (record {
        good = b;
        low = omega (arith, t.low);
        last = λ s e. ap (last_run (begins x)) (leaves-two ws h a t.no_third) ∙ last-left (begins x) (leaves_at ws h (child1 ws a)) (leaves_at ws h (child2 ws a)) n ∙ e;
      }))
      (le_or_lt (second_at_of ws a) x)
  down-last {h} {a} x m (good-three t b c d) =
      let bc = good-bounds c in
      let f = ap (last_run (begins x)) (leaves-three ws h a t.some_third) in
      ⊎_elim
      (λ (p : second_at_of ws a ≤ x).
      ⊎_elim
      (λ (q : third_at ws a ≤ x).
      rw (for_third ws a x p t.some_third q) (record {
        good = d;
        low = omega (arith, t.third);
        last = λ s e. f ∙ last-right (begins x) s (leaves_at ws h (child1 ws a)) (leaves_at ws h (child2 ws a) ++ leaves_at ws h (child3 ws a))
            (last-right (begins x) s (leaves_at ws h (child2 ws a)) (leaves_at ws h (child3 ws a)) e);
      }))
      (λ (q : x < third_at ws a).
      let n = begin_no x (low_at_of ws (child3 ws a)) (high_at_of ws (child3 ws a)) (leaves_at ws h (child3 ws a)) (good-within d) (omega (arith, t.third)) in
      rw (for_middle ws a x p t.some_third q) (record {
        good = c;
        low = omega (arith, t.second);
        last = λ s e. f ∙ last-right (begins x) s (leaves_at ws h (child1 ws a)) (leaves_at ws h (child2 ws a) ++ leaves_at ws h (child3 ws a))
            (last-left (begins x) (leaves_at ws h (child2 ws a)) (leaves_at ws h (child3 ws a)) n ∙ e);
      }))
      (le_or_lt (third_at ws a) x))
      (λ (p : x < second_at_of ws a).
      let n2 = begin_no x (low_at_of ws (child2 ws a)) (high_at_of ws (child2 ws a)) (leaves_at ws h (child2 ws a)) (good-within c) (omega (arith, t.second)) in
      let n3 = begin_no x (low_at_of ws (child3 ws a)) (high_at_of ws (child3 ws a)) (leaves_at ws h (child3 ws a)) (good-within d) (omega (arith, t.second, t.apart2, bc.order)) in
      rw (for_first ws a x p) (record {
        good = b;
        low = omega (arith, t.low);
        last = λ s e. f ∙ last-left (begins x) (leaves_at ws h (child1 ws a)) (leaves_at ws h (child2 ws a) ++ leaves_at ws h (child3 ws a))
            (last-left (begins x) (leaves_at ws h (child2 ws a)) (leaves_at ws h (child3 ws a)) n3 ∙ n2) ∙ e;
      }))
      (le_or_lt (second_at_of ws a) x)

-- ---- the code's steps

module _ (ws : List ℕ) (start free h a x : ℕ) (g : Good ws start free h a) where
  pub reach_readable : (h ≡ 0 → ⊥) → free ≤ length ws → Readable ws a
  reach_readable ne q =
      let u = good-up h ne g in
      record {
        node = omega (arith, good-end8 u);
        first = omega (arith, (good-bounds (good-1 u)).ended);
        second = omega (arith, (good-bounds (good-2 u)).ended);
      }

  pub reach_leaf : h ≡ 0 → x ≤ high_at_of ws a → Reaching ws start free h a x a
  reach_leaf z q = record {
    begun = (good-bounds g).begun;
    ended = (good-bounds g).ended;
    first = ap (λ (y : ℕ). first_run_of (reaches x) (leaves_at ws y a)) z ∙ ap (first_run_of (reaches x)) (leaves-leaf ws a)
        ∙ first-in (reaches x) (run_in_of ws a) [] (le-leb x (high_at_of ws a) q);
  }

  pub start-leaf : h ≡ 0 → low_at_of ws a ≤ x → Starting ws start free h a x a
  start-leaf z q = record {
    begun = (good-bounds g).begun;
    ended = (good-bounds g).ended;
    last = ap (λ (y : ℕ). last_run (begins x) (leaves_at ws y a)) z ∙ ap (last_run (begins x)) (leaves-leaf ws a) ∙ last-in (begins x) (run_in_of ws a) [] (le-leb (low_at_of ws a) x q)
        ∙ rw (last-nil (begins x)) refl;
  }

  module _ (ne : h ≡ 0 → ⊥) (c : ℕ) where
    module _ (q : x ≤ high_at_of ws a) (ec : c ≡ child_reaching ws a x) where
      pub reach_high : x ≤ high_at_of ws c
      reach_high = rw ec (down x q (good-up h ne g)).high

      pub reach_good : Good ws start free (h - 1) c
      reach_good = rw ec (down x q (good-up h ne g)).good

      pub reach_on : (r : ℕ) → Reaching ws start free (h - 1) c x r → Reaching ws start free h a x r
      reach_on r s = record {
        begun = s.begun;
        ended = s.ended;
        first = ap (λ (y : ℕ). first_run_of (reaches x) (leaves_at ws y a)) (level_up h ne)
            ∙ (down x q (good-up h ne g)).first (run_in_of ws r) (ap (λ (y : ℕ). first_run_of (reaches x) (leaves_at ws (h - 1) y)) (sym ec) ∙ s.first);
      }

    module _ (q : low_at_of ws a ≤ x) (ec : c ≡ child_for ws a x) where
      pub start-low : low_at_of ws c ≤ x
      start-low = rw ec (down-last x q (good-up h ne g)).low

      pub start-good : Good ws start free (h - 1) c
      start-good = rw ec (down-last x q (good-up h ne g)).good

      pub start-on : (r : ℕ) → Starting ws start free (h - 1) c x r → Starting ws start free h a x r
      start-on r s = record {
        begun = s.begun;
        ended = s.ended;
        last = ap (λ (y : ℕ). last_run (begins x) (leaves_at ws y a)) (level_up h ne)
            ∙ (down-last x q (good-up h ne g)).last (run_in_of ws r) (ap (λ (y : ℕ). last_run (begins x) (leaves_at ws (h - 1) y)) (sym ec) ∙ s.last);
      }
