-- Laws of sound nodes: they are kept where their words are, and what is recorded is true of the leaves.
use Rattle.model.proofs.Prelude.{ℕ, ◌≤◌, ◌<◌, ◌+◌, suc, ◌^◌, ◌≡◌, ◌∙◌, ap, refl, sym, ap₂, List, [], ◌∷◌, ◌++◌, get_or, arith, ne_eqb, eq-eqb}
use Rattle.model.specs.Runs.{Run}
use Rattle.tree_words.specs.TreeShape.{two, three, leaves}
use Rattle.tree_words.specs.TreeLayout.{low_at_of, high_at_of, total_at_of, second_at_of, third_at, child1, child2, child3, run_in_of, marks_in, tree_at, leaves_at}
use Rattle.tree_words.specs.Nodes.{TwoTrue, ThreeTrue, Good, good-leaf, good-two, good-three, Kept}

-- ---- the leaves below a node

module _ (ws : List ℕ) (h a : ℕ) where
  pub tree-two : child3 ws a ≡ 0 → tree_at ws (suc h) a ≡ two (marks_in ws a) (tree_at ws h (child1 ws a)) (tree_at ws h (child2 ws a))
  unfolding tree_at
  tree-two e = rw (eq-eqb (child3 ws a) 0 e, tree_at)

  pub tree-three : (child3 ws a ≡ 0 → ⊥)
      → tree_at ws (suc h) a ≡ three (marks_in ws a) (tree_at ws h (child1 ws a)) (tree_at ws h (child2 ws a)) (tree_at ws h (child3 ws a))
  unfolding tree_at
  tree-three e = rw (ne_eqb (child3 ws a) 0 e, tree_at)

  pub leaves-two : child3 ws a ≡ 0 → leaves_at ws (suc h) a ≡ leaves_at ws h (child1 ws a) ++ leaves_at ws h (child2 ws a)
  leaves-two e = ap leaves (tree-two e)

  pub leaves-three : (child3 ws a ≡ 0 → ⊥)
      → leaves_at ws (suc h) a ≡ leaves_at ws h (child1 ws a) ++ (leaves_at ws h (child2 ws a) ++ leaves_at ws h (child3 ws a))
  leaves-three e = ap leaves (tree-three e)

pub leaves-leaf : (ws : List ℕ) (a : ℕ) → leaves_at ws 0 a ≡ run_in_of ws a ∷ []
unfolding tree_at
leaves-leaf ws a = refl

-- ---- bounds

pub record Bounds (ws : List ℕ) (start free a : ℕ) : Type 0 where
  pub begun : start ≤ a
  pub ended : a + 3 ≤ free
  pub least : 1 ≤ low_at_of ws a
  pub order : low_at_of ws a ≤ high_at_of ws a
  pub most : high_at_of ws a ≤ 2 ^ 62

pub good-bounds : {ws : List ℕ} {start free h a : ℕ} → Good ws start free h a → Bounds ws start free a
good-bounds (good-leaf t) = record { begun = t.begun; ended = t.ended; least = t.least; order = t.order; most = t.most }
good-bounds (good-two t b c) =
    let p = good-bounds b in
    let q = good-bounds c in
    record {
      begun = t.begun;
      ended = omega (arith, t.ended);
      least = omega (arith, t.low, p.least);
      order = omega (arith, t.low, t.high, t.apart, p.order, q.order);
      most = omega (arith, t.high, q.most);
    }
good-bounds (good-three t b c d) =
    let p = good-bounds b in
    let q = good-bounds c in
    let r = good-bounds d in
    record {
      begun = t.begun;
      ended = omega (arith, t.ended);
      least = omega (arith, t.low, p.least);
      order = omega (arith, t.low, t.high, t.apart, t.apart2, p.order, q.order, r.order);
      most = omega (arith, t.high, r.most);
    }

-- ---- more free words used

pub good-wider : {ws : List ℕ} {start free h a : ℕ} (free' : ℕ) → free ≤ free' → Good ws start free h a → Good ws start free' h a
good-wider free' q (good-leaf t) =
    good-leaf (record { begun = t.begun; ended = omega (arith, t.ended); least = t.least; order = t.order; most = t.most; counted = t.counted })
good-wider free' q (good-two t b c) =
    good-two
    (record { begun = t.begun; ended = omega (arith, t.ended); no_third = t.no_third; low = t.low; high = t.high; second = t.second; third = t.third; apart = t.apart; counted = t.counted })
    (good-wider free' q b)
    (good-wider free' q c)
good-wider free' q (good-three t b c d) =
    good-three
    (record {
      begun = t.begun;
      ended = omega (arith, t.ended);
      some_third = t.some_third;
      low = t.low;
      high = t.high;
      second = t.second;
      third = t.third;
      apart = t.apart;
      apart2 = t.apart2;
      counted = t.counted;
    })
    (good-wider free' q b)
    (good-wider free' q c)
    (good-wider free' q d)

-- ---- the same words

module _ (ws ws' : List ℕ) (start free : ℕ) (same : (i : ℕ) → start ≤ i → i < free → get_or ws' i 0 ≡ get_or ws i 0) where
  three-words : (a : ℕ) → Bounds ws start free a → (low_at_of ws' a ≡ low_at_of ws a) × (high_at_of ws' a ≡ high_at_of ws a) × (total_at_of ws' a ≡ total_at_of ws a)
  three-words a b =
      (same a b.begun (omega (arith, b.ended)), same (a + 1) (omega (arith, b.begun)) (omega (arith, b.ended)), same (a + 2) (omega (arith, b.begun)) (omega (arith, b.ended)))

  five-words : (a : ℕ) → start ≤ a → a + 8 ≤ free
      → (second_at_of ws' a ≡ second_at_of ws a) × (third_at ws' a ≡ third_at ws a) × (child1 ws' a ≡ child1 ws a) × (child2 ws' a ≡ child2 ws a) × (child3 ws' a ≡ child3 ws a)
  five-words a p q = (
    same (a + 3) (omega arith) (omega arith),
    same (a + 4) (omega arith) (omega arith),
    same (a + 5) (omega arith) (omega arith),
    same (a + 6) (omega arith) (omega arith),
    same (a + 7)
        (omega arith) (omega arith),
  )

  pub two-same : (a b c : ℕ) → Bounds ws start free a → Bounds ws start free b → Bounds ws start free c
      → TwoTrue ws start free a b c → TwoTrue ws' start free a b c
  two-same a b c ba bb bc t =
      let p = three-words a ba in
      let q = three-words b bb in
      let r = three-words c bc in
      let w = five-words a t.begun t.ended in
      record {
        begun = t.begun;
        ended = t.ended;
        no_third = w.4 ∙ t.no_third;
        low = p.0 ∙ t.low ∙ sym q.0;
        high = p.1 ∙ t.high ∙ sym r.1;
        second = w.0 ∙ t.second ∙ sym r.0;
        third = w.1 ∙ t.third;
        apart = omega (arith, t.apart, q.1, r.0);
        counted = omega (arith, t.counted, p.2, q.2, r.2);
      }

  pub three-same : (a b c d : ℕ) → Bounds ws start free a → Bounds ws start free b → Bounds ws start free c → Bounds ws start free d
      → ThreeTrue ws start free a b c d → ThreeTrue ws' start free a b c d
  three-same a b c d ba bb bc bd t =
      let p = three-words a ba in
      let q = three-words b bb in
      let r = three-words c bc in
      let u = three-words d bd in
      let w = five-words a t.begun t.ended in
      record {
        begun = t.begun;
        ended = t.ended;
        some_third = λ z. t.some_third (sym w.4 ∙ z);
        low = p.0 ∙ t.low ∙ sym q.0;
        high = p.1 ∙ t.high ∙ sym u.1;
        second = w.0 ∙ t.second ∙ sym r.0;
        third = w.1 ∙ t.third ∙ sym u.0;
        apart = omega (arith, t.apart, q.1, r.0);
        apart2 = omega (arith, t.apart2, r.1, u.0);
        counted = omega (arith, t.counted, p.2, q.2, r.2, u.2);
      }

  pub good-same : {h a : ℕ} → Good ws start free h a → Good ws' start free h a
  good-same {a = a} (good-leaf t) =
      let p = three-words a (good-bounds (good-leaf t)) in
      good-leaf (record {
        begun = t.begun;
        ended = t.ended;
        least = omega (arith, t.least, p.0);
        order = omega (arith, t.order, p.0, p.1);
        most = omega (arith, t.most, p.1);
        counted =
            omega (arith, t.counted, p.0, p.1, p.2);
      })
  good-same {h = suc h} {a = a} (good-two t b c) =
      let w = five-words a t.begun t.ended in
      good-two {h = h} {a = a}
      (rw (w.2, w.3) (two-same a (child1 ws a) (child2 ws a) (good-bounds (good-two t b c)) (good-bounds b) (good-bounds c) t))
      (rw w.2 (good-same b))
      (rw w.3 (good-same c))
  good-same {h = suc h} {a = a} (good-three t b c d) =
      let w = five-words a t.begun t.ended in
      good-three {h = h} {a = a}
      (rw (w.2, w.3, w.4) (three-same a (child1 ws a) (child2 ws a) (child3 ws a) (good-bounds (good-three t b c d)) (good-bounds b) (good-bounds c) (good-bounds d) t))
      (rw w.2 (good-same b))
      (rw w.3 (good-same c))
      (rw w.4 (good-same d))

  pub leaves-same : {h a : ℕ} → Good ws start free h a → leaves_at ws' h a ≡ leaves_at ws h a
  leaves-same {a = a} (good-leaf t) =
      let p = three-words a (good-bounds (good-leaf t)) in
      leaves-leaf ws' a ∙ (λ i. record { low = p.0 i; high = p.1 i } ∷ []) ∙ sym (leaves-leaf ws a)
  leaves-same {h = suc h} {a = a} (good-two t b c) =
      let w = five-words a t.begun t.ended in
      leaves-two ws' h a (w.4 ∙ t.no_third)
      ∙ rw (w.2, w.3) (ap₂ (λ (x y : List Run). x ++ y) (leaves-same b) (leaves-same c))
      ∙ sym (leaves-two ws h a t.no_third)
  leaves-same {h = suc h} {a = a} (good-three t b c d) =
      let w = five-words a t.begun t.ended in
      leaves-three ws' h a (λ z. t.some_third (sym w.4 ∙ z))
      ∙ rw (w.2, w.3, w.4) (ap₂ (λ (x y : List Run). x ++ y) (leaves-same b) (ap₂ (λ (x y : List Run). x ++ y) (leaves-same c) (leaves-same d)))
      ∙ sym (leaves-three ws h a t.some_third)

module _ (ws ws' : List ℕ) (start free to : ℕ) (k : Kept ws ws' free to) where
  pub good-kept : {h a : ℕ} → Good ws start free h a → Good ws' start to h a
  good-kept g = good-wider to k.grown (good-same ws ws' start free (λ i p q. k.before i q) g)

  pub leaves_kept : {h a : ℕ} → Good ws start free h a → leaves_at ws' h a ≡ leaves_at ws h a
  leaves_kept g = leaves-same ws ws' start free (λ i p q. k.before i q) g

pub kept-kept : (ws ws' ws'' : List ℕ) (a b c : ℕ) → Kept ws ws' a b → Kept ws' ws'' b c → Kept ws ws'' a c
kept-kept ws ws' ws'' a b c k l = record {
  sized = l.sized ∙ k.sized;
  grown = omega (arith, k.grown, l.grown);
  before = λ i q. l.before i (omega (arith, k.grown)) ∙ k.before i q;
  behind = λ i q. l.behind i q ∙ k.behind i (omega (arith, l.grown));
}

pub kept-none : (ws : List ℕ) (a : ℕ) → Kept ws ws a a
kept-none ws a = record { sized = refl; grown = omega arith; before = λ i q. refl; behind = λ i q. refl }

pub good-some : {ws : List ℕ} {start free h a : ℕ} → 4 ≤ start → Good ws start free h a → a ≡ 0 → ⊥
good-some q g e = omega (arith, (good-bounds g).begun)
