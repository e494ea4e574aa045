-- Laws of inner nodes made of sound nodes.
use Rattle.model.proofs.Prelude.{ℕ, ◌≤◌, ◌+◌, suc, ◌^◌, ◌≡◌, ◌∙◌, sym, ap₂, List, [], ◌∷◌, ◌++◌, length, arith}
use Rattle.model.specs.Runs.{Run}
use Rattle.tree_words.specs.TreeLayout.{low_at_of, high_at_of, total_at_of, child1, child2, child3, leaves_at}
use Rattle.tree_words.specs.Nodes.{TwoTrue, ThreeTrue, Good, good-leaf, good-two, good-three, Kept, put_two, put_three_of, put_leaf_of}
use Rattle.tree_words.proofs.NodePutLaws.{node_kept, node-0, node-1, node-2, node-3, node-4, node-5, node-6, node-7, leaf-0, leaf-1, leaf-2}
use Rattle.tree_words.proofs.NodeLaws.{good-bounds, leaves-leaf, leaves-two, leaves-three, good-kept, leaves_kept}

module _ (ws : List ℕ) (start free h b c : ℕ) (gb : Good ws start free h b) (gc : Good ws start free h c) (apart : high_at_of ws b + 2 ≤ low_at_of ws c)
    (room : free + 8 ≤ length ws) where
  pub two-kept : Kept ws (put_two ws free b c) free (free + 8)
  two-kept = node_kept ws free (low_at_of ws b) (high_at_of ws c) (total_at_of ws b + total_at_of ws c) (low_at_of ws c) 0 b c 0

  same3 : (a : ℕ) → a + 3 ≤ free
      → (low_at_of (put_two ws free b c) a ≡ low_at_of ws a) × (high_at_of (put_two ws free b c) a ≡ high_at_of ws a) × (total_at_of (put_two ws free b c) a ≡ total_at_of ws a)
  same3 a q = (two-kept.before a (omega arith), two-kept.before (a + 1) (omega arith), two-kept.before (a + 2) (omega arith))

  pub two_good : Good (put_two ws free b c) start (free + 8) (suc h) free
  two_good =
      let e1 : child1 (put_two ws free b c) free ≡ b = node-5 ws free (low_at_of ws b) (high_at_of ws c) (total_at_of ws b + total_at_of ws c) (low_at_of ws c) 0 b c 0 room in
      let e2 : child2 (put_two ws free b c) free ≡ c = node-6 ws free (low_at_of ws b) (high_at_of ws c) (total_at_of ws b + total_at_of ws c) (low_at_of ws c) 0 b c 0 room in
      let bb = good-bounds gb in
      let bc = good-bounds gc in
      let p = same3 b bb.ended in
      let q = same3 c bc.ended in
      let t : TwoTrue (put_two ws free b c) start (free + 8) free b c = record {
        begun = omega (arith, bb.begun, bb.ended);
        ended = omega arith;
        no_third = node-7 ws free (low_at_of ws b) (high_at_of ws c) (total_at_of ws b + total_at_of ws c) (low_at_of ws c) 0 b c 0 room;
        low = node-0 ws free (low_at_of ws b) (high_at_of ws c) (total_at_of ws b + total_at_of ws c) (low_at_of ws c) 0 b c 0 room ∙ sym p.0;
        high = node-1 ws free (low_at_of ws b) (high_at_of ws c) (total_at_of ws b + total_at_of ws c) (low_at_of ws c) 0 b c 0 room ∙ sym q.1;
        second = node-3 ws free (low_at_of ws b) (high_at_of ws c) (total_at_of ws b + total_at_of ws c) (low_at_of ws c) 0 b c 0 room ∙ sym q.0;
        third = node-4 ws free (low_at_of ws b) (high_at_of ws c) (total_at_of ws b + total_at_of ws c) (low_at_of ws c) 0 b c 0 room;
        apart = omega (arith, apart, p.1, q.0);
        counted = omega (arith, p.2, q.2, node-2 ws free (low_at_of ws b) (high_at_of ws c) (total_at_of ws b + total_at_of ws c) (low_at_of ws c) 0 b c 0 room);
      } in
      good-two {h = h} {a = free} (rw (e1, e2) t)
      (rw e1 (good-kept ws (put_two ws free b c) start free (free + 8) two-kept gb))
      (rw e2 (good-kept ws (put_two ws free b c) start free (free + 8) two-kept gc))

  pub two-leaves : leaves_at (put_two ws free b c) (suc h) free ≡ leaves_at ws h b ++ leaves_at ws h c
  two-leaves =
      let e1 : child1 (put_two ws free b c) free ≡ b = node-5 ws free (low_at_of ws b) (high_at_of ws c) (total_at_of ws b + total_at_of ws c) (low_at_of ws c) 0 b c 0 room in
      let e2 : child2 (put_two ws free b c) free ≡ c = node-6 ws free (low_at_of ws b) (high_at_of ws c) (total_at_of ws b + total_at_of ws c) (low_at_of ws c) 0 b c 0 room in
      leaves-two (put_two ws free b c) h free (node-7 ws free (low_at_of ws b) (high_at_of ws c) (total_at_of ws b + total_at_of ws c) (low_at_of ws c) 0 b c 0 room)
      ∙ rw (e1, e2)
      (ap₂ (λ (x y : List Run). x ++ y)
      (leaves_kept ws (put_two ws free b c) start free (free + 8) two-kept gb)
      (leaves_kept ws (put_two ws free b c) start free (free + 8) two-kept gc))

module _ (ws : List ℕ) (start free h b c d : ℕ) (gb : Good ws start free h b) (gc : Good ws start free h c) (gd : Good ws start free h d)
    (apart : high_at_of ws b + 2 ≤ low_at_of ws c) (apart2 : high_at_of ws c + 2 ≤ low_at_of ws d) (some : d ≡ 0 → ⊥) (room : free + 8 ≤ length ws) where
  pub three-kept : Kept ws (put_three_of ws free b c d) free (free + 8)
  three-kept = node_kept ws free (low_at_of ws b) (high_at_of ws d) (total_at_of ws b + total_at_of ws c + total_at_of ws d) (low_at_of ws c) (low_at_of ws d) b c d

  same3' : (a : ℕ) → a + 3 ≤ free
      → (low_at_of (put_three_of ws free b c d) a ≡ low_at_of ws a) × (high_at_of (put_three_of ws free b c d) a ≡ high_at_of ws a) × (total_at_of (put_three_of ws free b c d) a ≡ total_at_of ws a)
  same3' a q = (three-kept.before a (omega arith), three-kept.before (a + 1) (omega arith), three-kept.before (a + 2) (omega arith))

  pub three-good : Good (put_three_of ws free b c d) start (free + 8) (suc h) free
  three-good =
      let e1 : child1 (put_three_of ws free b c d) free ≡ b = node-5 ws free (low_at_of ws b) (high_at_of ws d) (total_at_of ws b + total_at_of ws c + total_at_of ws d) (low_at_of ws c) (low_at_of ws d) b c d room in
      let e2 : child2 (put_three_of ws free b c d) free ≡ c = node-6 ws free (low_at_of ws b) (high_at_of ws d) (total_at_of ws b + total_at_of ws c + total_at_of ws d) (low_at_of ws c) (low_at_of ws d) b c d room in
      let e3 : child3 (put_three_of ws free b c d) free ≡ d = node-7 ws free (low_at_of ws b) (high_at_of ws d) (total_at_of ws b + total_at_of ws c + total_at_of ws d) (low_at_of ws c) (low_at_of ws d) b c d room in
      let bb = good-bounds gb in
      let bc = good-bounds gc in
      let bd = good-bounds gd in
      let p = same3' b bb.ended in
      let q = same3' c bc.ended in
      let r = same3' d bd.ended in
      let t : ThreeTrue (put_three_of ws free b c d) start (free + 8) free b c d = record {
        begun = omega (arith, bb.begun, bb.ended);
        ended = omega arith;
        some_third = λ z. some (sym e3 ∙ z);
        low = node-0 ws free (low_at_of ws b) (high_at_of ws d) (total_at_of ws b + total_at_of ws c + total_at_of ws d) (low_at_of ws c) (low_at_of ws d) b c d room ∙ sym p.0;
        high = node-1 ws free (low_at_of ws b) (high_at_of ws d) (total_at_of ws b + total_at_of ws c + total_at_of ws d) (low_at_of ws c) (low_at_of ws d) b c d room ∙ sym r.1;
        second = node-3 ws free (low_at_of ws b) (high_at_of ws d) (total_at_of ws b + total_at_of ws c + total_at_of ws d) (low_at_of ws c) (low_at_of ws d) b c d room ∙ sym q.0;
        third = node-4 ws free (low_at_of ws b) (high_at_of ws d) (total_at_of ws b + total_at_of ws c + total_at_of ws d) (low_at_of ws c) (low_at_of ws d) b c d room ∙ sym r.0;
        apart = omega (arith, apart, p.1, q.0);
        apart2 = omega (arith, apart2, q.1, r.0);
        counted = omega (arith, p.2, q.2, r.2, node-2 ws free (low_at_of ws b) (high_at_of ws d) (total_at_of ws b + total_at_of ws c + total_at_of ws d) (low_at_of ws c) (low_at_of ws d) b c d room);
      } in
      good-three {h = h} {a = free} (rw (e1, e2, e3) t)
      (rw e1 (good-kept ws (put_three_of ws free b c d) start free (free + 8) three-kept gb))
      (rw e2 (good-kept ws (put_three_of ws free b c d) start free (free + 8) three-kept gc))
      (rw e3 (good-kept ws (put_three_of ws free b c d) start free (free + 8) three-kept gd))

  pub three-leaves : leaves_at (put_three_of ws free b c d) (suc h) free ≡ leaves_at ws h b ++ (leaves_at ws h c ++ leaves_at ws h d)
  three-leaves =
      let e1 : child1 (put_three_of ws free b c d) free ≡ b = node-5 ws free (low_at_of ws b) (high_at_of ws d) (total_at_of ws b + total_at_of ws c + total_at_of ws d) (low_at_of ws c) (low_at_of ws d) b c d room in
      let e2 : child2 (put_three_of ws free b c d) free ≡ c = node-6 ws free (low_at_of ws b) (high_at_of ws d) (total_at_of ws b + total_at_of ws c + total_at_of ws d) (low_at_of ws c) (low_at_of ws d) b c d room in
      let e3 : child3 (put_three_of ws free b c d) free ≡ d = node-7 ws free (low_at_of ws b) (high_at_of ws d) (total_at_of ws b + total_at_of ws c + total_at_of ws d) (low_at_of ws c) (low_at_of ws d) b c d room in
      leaves-three (put_three_of ws free b c d) h free (λ z. some (sym e3 ∙ z))
      ∙ rw (e1, e2, e3)
      (ap₂ (λ (x y : List Run). x ++ y)
      (leaves_kept ws (put_three_of ws free b c d) start free (free + 8) three-kept gb)
      (ap₂ (λ (x y : List Run). x ++ y)
      (leaves_kept ws (put_three_of ws free b c d) start free (free + 8) three-kept gc)
      (leaves_kept ws (put_three_of ws free b c d) start free (free + 8) three-kept gd)))

-- a leaf
module _ (ws : List ℕ) (start free l u : ℕ) (begun : start ≤ free) (least : 1 ≤ l) (order : l ≤ u) (most : u ≤ 2 ^ 62) (room : free + 3 ≤ length ws) where
  pub leaf-good : Good (put_leaf_of ws free l u) start (free + 3) 0 free
  leaf-good =
      let p = leaf-0 ws free l u room in
      let q = leaf-1 ws free l u room in
      let r = leaf-2 ws free l u room in
      good-leaf (record { begun = begun; ended = omega arith; least = omega (arith, p); order = omega (arith, p, q); most = omega (arith, q); counted = omega (arith, p, q, r) })

  pub leaf-leaves : leaves_at (put_leaf_of ws free l u) 0 free ≡ record { low = l; high = u } ∷ []
  leaf-leaves =
      let p = leaf-0 ws free l u room in
      let q = leaf-1 ws free l u room in
      leaves-leaf (put_leaf_of ws free l u) free ∙ (λ i. record { low = p i; high = q i } ∷ [])
