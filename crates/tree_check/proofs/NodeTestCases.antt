-- Cases of the tests of a node with its children.
use Rattle.model.proofs.Prelude.{ℕ, ◌≤◌, ◌+◌, ◌≡◌, ◌∙◌, ap, refl, sym, ap₂, true, Bool, false, ◌&&◌, not, List, arith, ne_eqb, eq-eqb, not-true}
use Rattle.model.proofs.Prelude.{not-false}
use Rattle.model.proofs.BoolLaws.{and_parts}
use Rattle.tree_words.specs.TreeLayout.{child1, child2, child3, leaf_words, node_words, in_space, leaf_true_of, leaf_sound_of, two_sound_of, three_sound_of, children_sound, node_sound_of}
use Rattle.tree_check.proofs.TestCases.{inside-true}

module _ (ws : List ℕ) (start free a : ℕ) where
  pub leafs_no0 : (t0 : Bool) (e0 : t0 ≡ in_space start free a leaf_words) (q : not t0 ≡ true) → false ≡ leaf_sound_of ws start free a
  unfolding leaf_sound_of
  leafs_no0 t0 e0 q =
      let w0 : in_space start free a leaf_words ≡ false = sym e0 ∙ not-true t0 q in
      rw (w0, leaf_sound_of) refl

  pub leafs_last : (t0 : Bool) (e0 : t0 ≡ in_space start free a leaf_words) (p0 : not t0 ≡ false) (r : Bool) → r ≡ leaf_true_of ws a → r ≡ leaf_sound_of ws start free a
  unfolding leaf_sound_of
  leafs_last t0 e0 p0 r e =
      let w0 : in_space start free a leaf_words ≡ true = sym e0 ∙ not-false t0 p0 in
      rw (w0, leaf_sound_of) e

  pub leafs_true : leaf_sound_of ws start free a ≡ true → (in_space start free a leaf_words ≡ true) × (leaf_true_of ws a ≡ true)
  unfolding leaf_sound_of
  leafs_true e =
      let s2 = and_parts ((in_space start free a leaf_words)) (leaf_true_of ws a) e in
      (s2.0, s2.1)

  pub leafs_so : (in_space start free a leaf_words ≡ true) → (leaf_true_of ws a ≡ true) → leaf_sound_of ws start free a ≡ true
  unfolding leaf_sound_of
  leafs_so a0 a1 = rw (a0, a1, leaf_sound_of) refl

  pub node-no0 : (t0 : Bool) (e0 : t0 ≡ in_space start free a node_words) (q : not t0 ≡ true) → false ≡ node_sound_of ws start free a
  unfolding node_sound_of
  node-no0 t0 e0 q =
      let w0 : in_space start free a node_words ≡ false = sym e0 ∙ not-true t0 q in
      rw (w0, node_sound_of) refl

  pub node-no1 : (t0 : Bool) (e0 : t0 ≡ in_space start free a node_words) (p0 : not t0 ≡ false) (b : ℕ) (eb : b ≡ child1 ws a) (t1 : Bool) (e1 : t1 ≡ in_space start free b leaf_words)
      (q : not t1 ≡ true) → false ≡ node_sound_of ws start free a
  unfolding node_sound_of
  node-no1 t0 e0 p0 b eb t1 e1 q =
      let w0 : in_space start free a node_words ≡ true = sym e0 ∙ not-false t0 p0 in
      let w1 : in_space start free (child1 ws a) leaf_words ≡ false = ap (λ (x : ℕ). in_space start free x leaf_words) (sym eb) ∙ sym e1 ∙ not-true t1 q in
      rw (w0, w1, node_sound_of) refl

  pub node-no2 : (t0 : Bool) (e0 : t0 ≡ in_space start free a node_words) (p0 : not t0 ≡ false) (b : ℕ) (eb : b ≡ child1 ws a) (t1 : Bool) (e1 : t1 ≡ in_space start free b leaf_words)
      (p1 : not t1 ≡ false) (c : ℕ) (ec : c ≡ child2 ws a) (t2 : Bool) (e2 : t2 ≡ in_space start free c leaf_words) (q : not t2 ≡ true) → false ≡ node_sound_of ws start free a
  unfolding node_sound_of
  node-no2 t0 e0 p0 b eb t1 e1 p1 c ec t2 e2 q =
      let w0 : in_space start free a node_words ≡ true = sym e0 ∙ not-false t0 p0 in
      let w1 : in_space start free (child1 ws a) leaf_words ≡ true = ap (λ (x : ℕ). in_space start free x leaf_words) (sym eb) ∙ sym e1 ∙ not-false t1 p1 in
      let w2 : in_space start free (child2 ws a) leaf_words ≡ false = ap (λ (x : ℕ). in_space start free x leaf_words) (sym ec) ∙ sym e2 ∙ not-true t2 q in
      rw (w0, w1, w2, node_sound_of) refl

  pub node-last : (t0 : Bool) (e0 : t0 ≡ in_space start free a node_words) (p0 : not t0 ≡ false) (b : ℕ) (eb : b ≡ child1 ws a) (t1 : Bool) (e1 : t1 ≡ in_space start free b leaf_words)
      (p1 : not t1 ≡ false) (c : ℕ) (ec : c ≡ child2 ws a) (t2 : Bool) (e2 : t2 ≡ in_space start free c leaf_words) (p2 : not t2 ≡ false) (r : Bool) → r ≡ children_sound ws start free
      a → r ≡ node_sound_of ws start free a
  unfolding node_sound_of
  node-last t0 e0 p0 b eb t1 e1 p1 c ec t2 e2 p2 r e =
      let w0 : in_space start free a node_words ≡ true = sym e0 ∙ not-false t0 p0 in
      let w1 : in_space start free (child1 ws a) leaf_words ≡ true = ap (λ (x : ℕ). in_space start free x leaf_words) (sym eb) ∙ sym e1 ∙ not-false t1 p1 in
      let w2 : in_space start free (child2 ws a) leaf_words ≡ true = ap (λ (x : ℕ). in_space start free x leaf_words) (sym ec) ∙ sym e2 ∙ not-false t2 p2 in
      rw (w0, w1, w2, node_sound_of) e

  pub node-true : node_sound_of ws start free a ≡ true → (in_space start free a node_words ≡ true) × (in_space start free (child1 ws a) leaf_words ≡ true) ×
      (in_space start free (child2 ws a) leaf_words ≡ true) × (children_sound ws start free a ≡ true)
  unfolding node_sound_of
  node-true e =
      let s4 = and_parts ((in_space start free a node_words) && (in_space start free (child1 ws a) leaf_words) && (in_space start free (child2 ws a) leaf_words)) (children_sound ws start free a) e in
      let s3 = and_parts ((in_space start free a node_words) && (in_space start free (child1 ws a) leaf_words)) (in_space start free (child2 ws a) leaf_words) s4.0 in
      let s2 = and_parts ((in_space start free a node_words)) (in_space start free (child1 ws a) leaf_words) s3.0 in
      (s2.0, s2.1, s3.1, s4.1)

  pub node-so : (in_space start free a node_words ≡ true) → (in_space start free (child1 ws a) leaf_words ≡ true) → (in_space start free (child2 ws a) leaf_words ≡ true) →
      (children_sound ws start free a ≡ true) → node_sound_of ws start free a ≡ true
  unfolding node_sound_of
  node-so a0 a1 a2 a3 = rw (a0, a1, a2, a3, node_sound_of) refl

  pub children_two : child3 ws a ≡ 0 → children_sound ws start free a ≡ two_sound_of ws a (child1 ws a) (child2 ws a)
  unfolding children_sound
  children_two e = rw (eq-eqb (child3 ws a) 0 e, children_sound) refl

  pub children_three : (child3 ws a ≡ 0 → ⊥)
      → children_sound ws start free a ≡ in_space start free (child3 ws a) leaf_words && three_sound_of ws a (child1 ws a) (child2 ws a) (child3 ws a)
  unfolding children_sound
  children_three e = rw (ne_eqb (child3 ws a) 0 e, children_sound) refl

  -- what the code learns of the children before it looks at the third
  module _ (t0 : Bool) (e0 : t0 ≡ in_space start free a node_words) (p0 : not t0 ≡ false) where
    pub node-room : (n : ℕ) → free ≤ n → a + 8 ≤ n
    node-room n q = omega (arith, (inside-true start free a node_words (sym e0 ∙ not-false t0 p0)).1)

    module _ (b c : ℕ) (eb : b ≡ child1 ws a) (ec : c ≡ child2 ws a) (t1 : Bool) (e1 : t1 ≡ in_space start free b leaf_words) (p1 : not t1 ≡ false)
        (t2 : Bool) (e2 : t2 ≡ in_space start free c leaf_words) (p2 : not t2 ≡ false) (d : ℕ) (ed : d ≡ child3 ws a) where
      pub node-two : d ≡ 0 → (r : Bool) → r ≡ two_sound_of ws a b c → r ≡ node_sound_of ws start free a
      node-two z r e =
          node-last t0 e0 p0 b eb t1 e1 p1 c ec t2 e2 p2 r
          (e ∙ ap₂ (λ (x y : ℕ). two_sound_of ws a x y) eb ec ∙ sym (children_two (sym ed ∙ z)))

      module _ (some : d ≡ 0 → ⊥) (t3 : Bool) (e3 : t3 ≡ in_space start free d leaf_words) where
        pub node-third : not t3 ≡ true → false ≡ node_sound_of ws start free a
        node-third q =
            node-last t0 e0 p0 b eb t1 e1 p1 c ec t2 e2 p2 false
            (let w : in_space start free (child3 ws a) leaf_words ≡ false = ap (λ (x : ℕ). in_space start free x leaf_words) (sym ed) ∙ sym e3 ∙ not-true t3 q in
            sym (children_three (λ y. some (ed ∙ y)) ∙ rw w refl))

        pub node-three : not t3 ≡ false → (r : Bool) → r ≡ three_sound_of ws a b c d → r ≡ node_sound_of ws start free a
        node-three q r e =
            node-last t0 e0 p0 b eb t1 e1 p1 c ec t2 e2 p2 r
            (let w : in_space start free (child3 ws a) leaf_words ≡ true = ap (λ (x : ℕ). in_space start free x leaf_words) (sym ed) ∙ sym e3 ∙ not-false t3 q in
            let v : three_sound_of ws a b c d ≡ three_sound_of ws a (child1 ws a) (child2 ws a) (child3 ws a) = rw (eb, ec, ed) refl in
            e ∙ v ∙ sym (children_three (λ y. some (ed ∙ y)) ∙ rw w refl))

pub in_length : (start free at n l : ℕ) (t : Bool) → t ≡ in_space start free at n → not t ≡ false → free ≤ l → at + n ≤ l
in_length start free at n l t e p q = omega (arith, (inside-true start free at n (sym e ∙ not-false t p)).1)

pub node-inside : (ws : List ℕ) (start free a n : ℕ) (t : Bool) → t ≡ node_sound_of ws start free a → not t ≡ false → free ≤ n → a + 8 ≤ n
node-inside ws start free a n t e p q = omega (arith, (inside-true start free a node_words (node-true ws start free a (sym e ∙ not-false t p)).0).1)
