-- Cases of `sound_at`: down the levels; and the check as a fact about the nodes.
use Rattle.model.proofs.Prelude.{ℕ, ◌≤◌, ◌<◌, ◌+◌, ◌-◌, suc, ◌^◌, zero, ◌≡◌, ◌∙◌, ap, refl, sym, ⊎_elim, true, Bool, false, ◌&&◌, not, ◌||◌, List}
use Rattle.model.proofs.Prelude.{eqb, arith, le-leb, ne_eqb, eq-eqb, not-true, not-false, leb-true}
use borrow.Author.Tests.{eqb-true}
use Rattle.model.proofs.BoolLaws.{le_or_lt, and_parts}
use Rattle.tree_words.specs.Nodes.{LeafTrue, TwoTrue, ThreeTrue, Good, good-leaf, good-two, good-three}
use Rattle.tree_words.specs.TreeLayout.{low_at_of, high_at_of, total_at_of, second_at_of, third_at, child1, child2, child3, leaf_words, node_words, in_space, leaf_sound_of}
use Rattle.tree_words.specs.TreeLayout.{two_sound_of, three_sound_of, node_sound_of, sound_at_of}
use Rattle.tree_words.proofs.NodeLaws.{good-bounds}
use Rattle.tree_check.proofs.TestCases.{two-so, leaf-so, leaf-true, two-true, three-true, inside-true, three-so}
use Rattle.tree_check.proofs.NodeTestCases.{children_two, children_three, node-true, node-so, leafs_so, leafs_true}

-- ---- down the levels

module _ (ws : List ℕ) (start free h a : ℕ) where
  pub sound-leaf : h ≡ 0 → sound_at_of ws start free h a ≡ leaf_sound_of ws start free a
  unfolding sound_at_of
  sound-leaf e = rw (e, sound_at_of) refl

  rest : Bool
  rest = eqb (child3 ws a) 0 || sound_at_of ws start free (h - 1) (child3 ws a)

  sound-suc : (k : ℕ) → h ≡ suc k → sound_at_of ws start free h a
      ≡ (node_sound_of ws start free a && sound_at_of ws start free k (child1 ws a) && sound_at_of ws start free k (child2 ws a)
      && (eqb (child3 ws a) 0 || sound_at_of ws start free k (child3 ws a)))
  unfolding sound_at_of
  sound-suc k e = rw (e, sound_at_of) refl

  sound-inner : (h ≡ 0 → ⊥) → sound_at_of ws start free h a
      ≡ (node_sound_of ws start free a && sound_at_of ws start free (h - 1) (child1 ws a) && sound_at_of ws start free (h - 1) (child2 ws a) && rest)
  unfolding rest
  sound-inner ne = sound-suc (h - 1) (⊎_elim (λ (q : h ≤ 0). absurd (ne (omega arith))) (λ (q : 0 < h). omega arith) (le_or_lt h 0))

  pub at_leaf : h ≡ 0 → (r : Bool) → r ≡ leaf_sound_of ws start free a → r ≡ sound_at_of ws start free h a
  at_leaf z r e = e ∙ sym (sound-leaf z)

  module _ (ne : h ≡ 0 → ⊥) where
    module _ (t0 : Bool) (e0 : t0 ≡ node_sound_of ws start free a) where
      pub at-node : not t0 ≡ true → false ≡ sound_at_of ws start free h a
      at-node q = let w : node_sound_of ws start free a ≡ false = sym e0 ∙ not-true t0 q in sym (sound-inner ne ∙ rw w refl)

      module _ (p0 : not t0 ≡ false) where
        n0 : node_sound_of ws start free a ≡ true
        n0 = sym e0 ∙ not-false t0 p0

        pub at_room : (n : ℕ) → free ≤ n → a + 8 ≤ n
        at_room n q = omega (arith, (inside-true start free a node_words (node-true ws start free a n0).0).1)

        module _ (b : ℕ) (eb : b ≡ child1 ws a) (t1 : Bool) (e1 : t1 ≡ sound_at_of ws start free (h - 1) b) where
          pub at_first : not t1 ≡ true → false ≡ sound_at_of ws start free h a
          at_first q =
              let w : sound_at_of ws start free (h - 1) (child1 ws a) ≡ false = ap (sound_at_of ws start free (h - 1)) (sym eb) ∙ sym e1 ∙ not-true t1 q in
              sym (sound-inner ne ∙ rw (n0, w) refl)

          module _ (p1 : not t1 ≡ false) (c : ℕ) (ec : c ≡ child2 ws a) (t2 : Bool) (e2 : t2 ≡ sound_at_of ws start free (h - 1) c) where
            n1 : sound_at_of ws start free (h - 1) (child1 ws a) ≡ true
            n1 = ap (sound_at_of ws start free (h - 1)) (sym eb) ∙ sym e1 ∙ not-false t1 p1

            pub at_second : not t2 ≡ true → false ≡ sound_at_of ws start free h a
            at_second q =
                let w : sound_at_of ws start free (h - 1) (child2 ws a) ≡ false = ap (sound_at_of ws start free (h - 1)) (sym ec) ∙ sym e2 ∙ not-true t2 q in
                sym (sound-inner ne ∙ rw (n0, n1, w) refl)

            module _ (p2 : not t2 ≡ false) (d : ℕ) (ed : d ≡ child3 ws a) where
              n2 : sound_at_of ws start free (h - 1) (child2 ws a) ≡ true
              n2 = ap (sound_at_of ws start free (h - 1)) (sym ec) ∙ sym e2 ∙ not-false t2 p2

              whole : sound_at_of ws start free h a ≡ (eqb (child3 ws a) 0 || sound_at_of ws start free (h - 1) (child3 ws a))
              unfolding rest
              whole = sound-inner ne ∙ rw (n0, n1, n2) refl

              pub at-two : d ≡ 0 → true ≡ sound_at_of ws start free h a
              at-two z = let w = eq-eqb (child3 ws a) 0 (sym ed ∙ z) in sym (whole ∙ rw w refl)

              pub at-third : (d ≡ 0 → ⊥) → (r : Bool) → r ≡ sound_at_of ws start free (h - 1) d → r ≡ sound_at_of ws start free h a
              at-third z r e = let w = ne_eqb (child3 ws a) 0 (λ y. z (ed ∙ y)) in e ∙ ap (sound_at_of ws start free (h - 1)) ed ∙ sym (whole ∙ rw w refl)

-- ---- the check as a fact

or-true : (x y : Bool) → (x || y) ≡ true → x ≡ false → y ≡ true
or-true true y e f = absurd (mathlib.Core.Bool.true≢false f)
or-true false y e f = e

module _ (ws : List ℕ) (start free : ℕ) where
  leaf-fact : (a : ℕ) → leaf_sound_of ws start free a ≡ true → LeafTrue ws start free a
  leaf-fact a e =
      let s = leafs_true ws start free a e in
      let i = inside-true start free a leaf_words s.0 in
      let t = leaf-true ws a s.1 in
      record {
        begun = i.0;
        ended = i.1;
        least = leb-true 1 (low_at_of ws a) t.0;
        order = leb-true (low_at_of ws a) (high_at_of ws a) t.1;
        most = leb-true (high_at_of ws a) (2 ^ 62) t.2;
        counted = eqb-true (total_at_of ws a) (suc (high_at_of ws a) - low_at_of ws a) t.3;
      }

  two-fact : (a b c : ℕ) → start ≤ a → a + 8 ≤ free → child3 ws a ≡ 0 → two_sound_of ws a b c ≡ true → TwoTrue ws start free a b c
  two-fact a b c p q z e =
      let t = two-true ws a b c e in
      record {
        begun = p;
        ended = q;
        no_third = z;
        low = eqb-true (low_at_of ws a) (low_at_of ws b) t.0;
        high = eqb-true (high_at_of ws a) (high_at_of ws c) t.1;
        second = eqb-true (second_at_of ws a) (low_at_of ws c) t.2;
        third = eqb-true (third_at ws a) 0 t.3;
        apart = leb-true (high_at_of ws b + 2) (low_at_of ws c) t.4;
        counted = eqb-true (total_at_of ws a) (total_at_of ws b + total_at_of ws c) t.5;
      }

  three-fact : (a b c d : ℕ) → start ≤ a → a + 8 ≤ free → (child3 ws a ≡ 0 → ⊥) → three_sound_of ws a b c d ≡ true → ThreeTrue ws start free a b c d
  three-fact a b c d p q z e =
      let t = three-true ws a b c d e in
      record {
        begun = p;
        ended = q;
        some_third = z;
        low = eqb-true (low_at_of ws a) (low_at_of ws b) t.0;
        high = eqb-true (high_at_of ws a) (high_at_of ws d) t.1;
        second = eqb-true (second_at_of ws a) (low_at_of ws c) t.2;
        third = eqb-true (third_at ws a) (low_at_of ws d) t.3;
        apart = leb-true (high_at_of ws b + 2) (low_at_of ws c) t.4;
        apart2 = leb-true (high_at_of ws c + 2) (low_at_of ws d) t.5;
        counted = eqb-true (total_at_of ws a) (total_at_of ws b + total_at_of ws c + total_at_of ws d) t.6;
      }

  -- the facts of an inner node, from the tests
  pub inner_good : (h a : ℕ) → node_sound_of ws start free a ≡ true → Good ws start free h (child1 ws a) → Good ws start free h (child2 ws a)
      → ((child3 ws a ≡ 0 → ⊥) → Good ws start free h (child3 ws a)) → Good ws start free (suc h) a
  inner_good h a e gb gc gd =
      let s = node-true ws start free a e in
      let i = inside-true start free a node_words s.0 in
      ⊎_elim
      (λ (q : child3 ws a ≤ 0).
      let z : child3 ws a ≡ 0 = omega arith in
      good-two {h = h} {a = a} (two-fact a (child1 ws a) (child2 ws a) i.0 i.1 z (sym (children_two ws start free a z) ∙ s.3)) gb gc)
      (λ (q : 0 < child3 ws a).
      let z : child3 ws a ≡ 0 → ⊥ = λ y. omega arith in
      let t = and_parts (in_space start free (child3 ws a) leaf_words) (three_sound_of ws a (child1 ws a) (child2 ws a) (child3 ws a)) (sym (children_three ws start free a z) ∙ s.3) in
      good-three {h = h} {a = a} (three-fact a (child1 ws a) (child2 ws a) (child3 ws a) i.0 i.1 z t.1) gb gc (gd z))
      (le_or_lt (child3 ws a) 0)

  pub sound-good : (h a : ℕ) → sound_at_of ws start free h a ≡ true → Good ws start free h a
  sound-good zero a e = good-leaf (leaf-fact a (sym (sound-leaf ws start free 0 a refl) ∙ e))
  sound-good (suc h) a e =
      let f = sym (sound-suc ws start free (suc h) a h refl) ∙ e in
      let s3 = and_parts (node_sound_of ws start free a && sound_at_of ws start free h (child1 ws a) && sound_at_of ws start free h (child2 ws a))
      (eqb (child3 ws a) 0 || sound_at_of ws start free h (child3 ws a)) f in
      let s2 = and_parts (node_sound_of ws start free a && sound_at_of ws start free h (child1 ws a)) (sound_at_of ws start free h (child2 ws a)) s3.0 in
      let s1 = and_parts (node_sound_of ws start free a) (sound_at_of ws start free h (child1 ws a)) s2.0 in
      inner_good h a s1.0 (sound-good h (child1 ws a) s1.1) (sound-good h (child2 ws a) s2.1)
      (λ z. sound-good h (child3 ws a) (or-true (eqb (child3 ws a) 0) (sound_at_of ws start free h (child3 ws a)) s3.1 (ne_eqb (child3 ws a) 0 z)))

  -- and back
  in_so : (a n : ℕ) → start ≤ a → a + n ≤ free → in_space start free a n ≡ true
  unfolding in_space
  in_so a n p q = rw (le-leb start a p, le-leb (a + n) free q, in_space) refl

  child_so : {h a : ℕ} → Good ws start free h a → in_space start free a leaf_words ≡ true
  child_so {a = a} g = in_so a leaf_words (good-bounds g).begun (good-bounds g).ended

  pub good-sound : {h a : ℕ} → Good ws start free h a → sound_at_of ws start free h a ≡ true
  good-sound {a = a} (good-leaf t) =
      sound-leaf ws start free 0 a refl
      ∙ leafs_so ws start free a (in_so a leaf_words t.begun t.ended)
      (leaf-so ws a (le-leb 1 (low_at_of ws a) t.least) (le-leb (low_at_of ws a) (high_at_of ws a) t.order) (le-leb (high_at_of ws a) (2 ^ 62) t.most)
      (eq-eqb (total_at_of ws a) (suc (high_at_of ws a) - low_at_of ws a) t.counted))
  good-sound {h = suc h} {a = a} (good-two t b c) =
      let two = two-so ws a (child1 ws a) (child2 ws a) (eq-eqb (low_at_of ws a) (low_at_of ws (child1 ws a)) t.low) (eq-eqb (high_at_of ws a) (high_at_of ws (child2 ws a)) t.high)
      (eq-eqb (second_at_of ws a) (low_at_of ws (child2 ws a)) t.second) (eq-eqb (third_at ws a) 0 t.third) (le-leb (high_at_of ws (child1 ws a) + 2) (low_at_of ws (child2 ws a)) t.apart)
      (eq-eqb (total_at_of ws a) (total_at_of ws (child1 ws a) + total_at_of ws (child2 ws a)) t.counted) in
      let node = node-so ws start free a (in_so a node_words t.begun t.ended) (child_so b) (child_so c) (children_two ws start free a t.no_third ∙ two) in
      sound-suc ws start free (suc h) a h refl ∙ rw (node, good-sound b, good-sound c, eq-eqb (child3 ws a) 0 t.no_third) refl
  good-sound {h = suc h} {a = a} (good-three t b c d) =
      let three = three-so ws a (child1 ws a) (child2 ws a) (child3 ws a) (eq-eqb (low_at_of ws a) (low_at_of ws (child1 ws a)) t.low) (eq-eqb (high_at_of ws a) (high_at_of ws (child3 ws a)) t.high)
      (eq-eqb (second_at_of ws a) (low_at_of ws (child2 ws a)) t.second) (eq-eqb (third_at ws a) (low_at_of ws (child3 ws a)) t.third)
      (le-leb (high_at_of ws (child1 ws a) + 2) (low_at_of ws (child2 ws a)) t.apart)
      (le-leb (high_at_of ws (child2 ws a) + 2) (low_at_of ws (child3 ws a)) t.apart2)
      (eq-eqb (total_at_of ws a) (total_at_of ws (child1 ws a) + total_at_of ws (child2 ws a) + total_at_of ws (child3 ws a)) t.counted) in
      let third = child_so d in
      let node = node-so ws start free a (in_so a node_words t.begun t.ended) (child_so b) (child_so c) (children_three ws start free a t.some_third ∙ rw (third, three) refl) in
      sound-suc ws start free (suc h) a h refl ∙ rw (node, good-sound b, good-sound c, good-sound d, ne_eqb (child3 ws a) 0 t.some_third) refl
