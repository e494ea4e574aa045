-- Laws of nodes written into words: each word is read back, and no other word is changed.
use Rattle.model.proofs.Prelude.{ℕ, ◌≤◌, ◌<◌, ◌+◌, ◌-◌, ◌≡◌, ◌∙◌, inl, inr, ◌⊎◌, List, length, get_or, set, length-set, get_or-set_same, get_or-set_other}
use Rattle.model.proofs.Prelude.{arith}
use Rattle.tree_words.specs.Nodes.{put_leaf_of, put_node_of, Kept}

module _ (ws : List ℕ) (at l h t s th x y z : ℕ) where
  pub node-length : length (put_node_of ws at l h t s th x y z) ≡ length ws
  unfolding put_node_of
  node-length = simp length-set

  pub node-other : (i : ℕ) → (i < at) ⊎ (at + 8 ≤ i) → get_or (put_node_of ws at l h t s th x y z) i 0 ≡ get_or ws i 0
  unfolding put_node_of
  node-other i (inl q) =
      get_or-set_other (set (set (set (set (set (set (set ws at l) (at + 1) h) (at + 2) t) (at + 3) s) (at + 4) th) (at + 5) x) (at + 6) y) (at + 7) i z 0 (omega arith)
      ∙ get_or-set_other (set (set (set (set (set (set ws at l) (at + 1) h) (at + 2) t) (at + 3) s) (at + 4) th) (at + 5) x) (at + 6) i y 0 (omega arith)
      ∙ get_or-set_other (set (set (set (set (set ws at l) (at + 1) h) (at + 2) t) (at + 3) s) (at + 4) th) (at + 5) i x 0 (omega arith)
      ∙ get_or-set_other (set (set (set (set ws at l) (at + 1) h) (at + 2) t) (at + 3) s) (at + 4) i th 0 (omega arith)
      ∙ get_or-set_other (set (set (set ws at l) (at + 1) h) (at + 2) t) (at + 3) i s 0 (omega arith)
      ∙ get_or-set_other (set (set ws at l) (at + 1) h) (at + 2) i t 0 (omega arith)
      ∙ get_or-set_other (set ws at l) (at + 1) i h 0 (omega arith)
      ∙ get_or-set_other ws at i l 0 (omega arith)
  node-other i (inr q) =
      get_or-set_other (set (set (set (set (set (set (set ws at l) (at + 1) h) (at + 2) t) (at + 3) s) (at + 4) th) (at + 5) x) (at + 6) y) (at + 7) i z 0 (omega arith)
      ∙ get_or-set_other (set (set (set (set (set (set ws at l) (at + 1) h) (at + 2) t) (at + 3) s) (at + 4) th) (at + 5) x) (at + 6) i y 0 (omega arith)
      ∙ get_or-set_other (set (set (set (set (set ws at l) (at + 1) h) (at + 2) t) (at + 3) s) (at + 4) th) (at + 5) i x 0 (omega arith)
      ∙ get_or-set_other (set (set (set (set ws at l) (at + 1) h) (at + 2) t) (at + 3) s) (at + 4) i th 0 (omega arith)
      ∙ get_or-set_other (set (set (set ws at l) (at + 1) h) (at + 2) t) (at + 3) i s 0 (omega arith)
      ∙ get_or-set_other (set (set ws at l) (at + 1) h) (at + 2) i t 0 (omega arith)
      ∙ get_or-set_other (set ws at l) (at + 1) i h 0 (omega arith)
      ∙ get_or-set_other ws at i l 0 (omega arith)

  pub node-0 : at + 8 ≤ length ws → get_or (put_node_of ws at l h t s th x y z) at 0 ≡ l
  unfolding put_node_of
  node-0 q =
      get_or-set_other (set (set (set (set (set (set (set ws at l) (at + 1) h) (at + 2) t) (at + 3) s) (at + 4) th) (at + 5) x) (at + 6) y) (at + 7) at z 0 (omega arith)
      ∙ get_or-set_other (set (set (set (set (set (set ws at l) (at + 1) h) (at + 2) t) (at + 3) s) (at + 4) th) (at + 5) x) (at + 6) at y 0 (omega arith)
      ∙ get_or-set_other (set (set (set (set (set ws at l) (at + 1) h) (at + 2) t) (at + 3) s) (at + 4) th) (at + 5) at x 0 (omega arith)
      ∙ get_or-set_other (set (set (set (set ws at l) (at + 1) h) (at + 2) t) (at + 3) s) (at + 4) at th 0 (omega arith)
      ∙ get_or-set_other (set (set (set ws at l) (at + 1) h) (at + 2) t) (at + 3) at s 0 (omega arith)
      ∙ get_or-set_other (set (set ws at l) (at + 1) h) (at + 2) at t 0 (omega arith)
      ∙ get_or-set_other (set ws at l) (at + 1) at h 0 (omega arith)
      ∙ get_or-set_same ws at l 0 (omega arith)

  pub node-1 : at + 8 ≤ length ws → get_or (put_node_of ws at l h t s th x y z) (at + 1) 0 ≡ h
  unfolding put_node_of
  node-1 q =
      get_or-set_other (set (set (set (set (set (set (set ws at l) (at + 1) h) (at + 2) t) (at + 3) s) (at + 4) th) (at + 5) x) (at + 6) y) (at + 7) (at + 1) z 0 (omega arith)
      ∙ get_or-set_other (set (set (set (set (set (set ws at l) (at + 1) h) (at + 2) t) (at + 3) s) (at + 4) th) (at + 5) x) (at + 6) (at + 1) y 0 (omega arith)
      ∙ get_or-set_other (set (set (set (set (set ws at l) (at + 1) h) (at + 2) t) (at + 3) s) (at + 4) th) (at + 5) (at + 1) x 0 (omega arith)
      ∙ get_or-set_other (set (set (set (set ws at l) (at + 1) h) (at + 2) t) (at + 3) s) (at + 4) (at + 1) th 0 (omega arith)
      ∙ get_or-set_other (set (set (set ws at l) (at + 1) h) (at + 2) t) (at + 3) (at + 1) s 0 (omega arith)
      ∙ get_or-set_other (set (set ws at l) (at + 1) h) (at + 2) (at + 1) t 0 (omega arith)
      ∙ get_or-set_same (set ws at l) (at + 1) h 0 (simp length-set (omega arith))

  pub node-2 : at + 8 ≤ length ws → get_or (put_node_of ws at l h t s th x y z) (at + 2) 0 ≡ t
  unfolding put_node_of
  node-2 q =
      get_or-set_other (set (set (set (set (set (set (set ws at l) (at + 1) h) (at + 2) t) (at + 3) s) (at + 4) th) (at + 5) x) (at + 6) y) (at + 7) (at + 2) z 0 (omega arith)
      ∙ get_or-set_other (set (set (set (set (set (set ws at l) (at + 1) h) (at + 2) t) (at + 3) s) (at + 4) th) (at + 5) x) (at + 6) (at + 2) y 0 (omega arith)
      ∙ get_or-set_other (set (set (set (set (set ws at l) (at + 1) h) (at + 2) t) (at + 3) s) (at + 4) th) (at + 5) (at + 2) x 0 (omega arith)
      ∙ get_or-set_other (set (set (set (set ws at l) (at + 1) h) (at + 2) t) (at + 3) s) (at + 4) (at + 2) th 0 (omega arith)
      ∙ get_or-set_other (set (set (set ws at l) (at + 1) h) (at + 2) t) (at + 3) (at + 2) s 0 (omega arith)
      ∙ get_or-set_same (set (set ws at l) (at + 1) h) (at + 2) t 0 (simp length-set (omega arith))

  pub node-3 : at + 8 ≤ length ws → get_or (put_node_of ws at l h t s th x y z) (at + 3) 0 ≡ s
  unfolding put_node_of
  node-3 q =
      get_or-set_other (set (set (set (set (set (set (set ws at l) (at + 1) h) (at + 2) t) (at + 3) s) (at + 4) th) (at + 5) x) (at + 6) y) (at + 7) (at + 3) z 0 (omega arith)
      ∙ get_or-set_other (set (set (set (set (set (set ws at l) (at + 1) h) (at + 2) t) (at + 3) s) (at + 4) th) (at + 5) x) (at + 6) (at + 3) y 0 (omega arith)
      ∙ get_or-set_other (set (set (set (set (set ws at l) (at + 1) h) (at + 2) t) (at + 3) s) (at + 4) th) (at + 5) (at + 3) x 0 (omega arith)
      ∙ get_or-set_other (set (set (set (set ws at l) (at + 1) h) (at + 2) t) (at + 3) s) (at + 4) (at + 3) th 0 (omega arith)
      ∙ get_or-set_same (set (set (set ws at l) (at + 1) h) (at + 2) t) (at + 3) s 0 (simp length-set (omega arith))

  pub node-4 : at + 8 ≤ length ws → get_or (put_node_of ws at l h t s th x y z) (at + 4) 0 ≡ th
  unfolding put_node_of
  node-4 q =
      get_or-set_other (set (set (set (set (set (set (set ws at l) (at + 1) h) (at + 2) t) (at + 3) s) (at + 4) th) (at + 5) x) (at + 6) y) (at + 7) (at + 4) z 0 (omega arith)
      ∙ get_or-set_other (set (set (set (set (set (set ws at l) (at + 1) h) (at + 2) t) (at + 3) s) (at + 4) th) (at + 5) x) (at + 6) (at + 4) y 0 (omega arith)
      ∙ get_or-set_other (set (set (set (set (set ws at l) (at + 1) h) (at + 2) t) (at + 3) s) (at + 4) th) (at + 5) (at + 4) x 0 (omega arith)
      ∙ get_or-set_same (set (set (set (set ws at l) (at + 1) h) (at + 2) t) (at + 3) s) (at + 4) th 0 (simp length-set (omega arith))

  pub node-5 : at + 8 ≤ length ws → get_or (put_node_of ws at l h t s th x y z) (at + 5) 0 ≡ x
  unfolding put_node_of
  node-5 q =
      get_or-set_other (set (set (set (set (set (set (set ws at l) (at + 1) h) (at + 2) t) (at + 3) s) (at + 4) th) (at + 5) x) (at + 6) y) (at + 7) (at + 5) z 0 (omega arith)
      ∙ get_or-set_other (set (set (set (set (set (set ws at l) (at + 1) h) (at + 2) t) (at + 3) s) (at + 4) th) (at + 5) x) (at + 6) (at + 5) y 0 (omega arith)
      ∙ get_or-set_same (set (set (set (set (set ws at l) (at + 1) h) (at + 2) t) (at + 3) s) (at + 4) th) (at + 5) x 0 (simp length-set (omega arith))

  pub node-6 : at + 8 ≤ length ws → get_or (put_node_of ws at l h t s th x y z) (at + 6) 0 ≡ y
  unfolding put_node_of
  node-6 q =
      get_or-set_other (set (set (set (set (set (set (set ws at l) (at + 1) h) (at + 2) t) (at + 3) s) (at + 4) th) (at + 5) x) (at + 6) y) (at + 7) (at + 6) z 0 (omega arith)
      ∙ get_or-set_same (set (set (set (set (set (set ws at l) (at + 1) h) (at + 2) t) (at + 3) s) (at + 4) th) (at + 5) x) (at + 6) y 0 (simp length-set (omega arith))

  pub node-7 : at + 8 ≤ length ws → get_or (put_node_of ws at l h t s th x y z) (at + 7) 0 ≡ z
  unfolding put_node_of
  node-7 q =
      get_or-set_same (set (set (set (set (set (set (set ws at l) (at + 1) h) (at + 2) t) (at + 3) s) (at + 4) th) (at + 5) x) (at + 6) y) (at + 7) z 0 (simp length-set (omega arith))

  pub node_kept : Kept ws (put_node_of ws at l h t s th x y z) at (at + 8)
  node_kept = record {
    sized = node-length;
    grown = omega arith;
    before = λ i q. node-other i (inl q);
    behind = λ i q. node-other i (inr q);
  }

module _ (ws : List ℕ) (at l h : ℕ) where
  pub leaf-length : length (put_leaf_of ws at l h) ≡ length ws
  leaf-length = simp length-set

  pub leaf-0 : at + 3 ≤ length ws → get_or (put_leaf_of ws at l h) at 0 ≡ l
  leaf-0 q =
      get_or-set_other (set (set ws at l) (at + 1) h) (at + 2) at (h - l + 1) 0 (omega arith)
      ∙ get_or-set_other (set ws at l) (at + 1) at h 0 (omega arith)
      ∙ get_or-set_same ws at l 0 (omega arith)

  pub leaf-1 : at + 3 ≤ length ws → get_or (put_leaf_of ws at l h) (at + 1) 0 ≡ h
  leaf-1 q =
      get_or-set_other (set (set ws at l) (at + 1) h) (at + 2) (at + 1) (h - l + 1) 0 (omega arith)
      ∙ get_or-set_same (set ws at l) (at + 1) h 0 (simp length-set (omega arith))

  pub leaf-2 : at + 3 ≤ length ws → get_or (put_leaf_of ws at l h) (at + 2) 0 ≡ h - l + 1
  leaf-2 q = get_or-set_same (set (set ws at l) (at + 1) h) (at + 2) (h - l + 1) 0 (simp length-set (omega arith))

  pub leaf-kept : Kept ws (put_leaf_of ws at l h) at (at + 3)
  leaf-kept = record {
    sized = leaf-length;
    grown = omega arith;
    before = λ i q.
        get_or-set_other (set (set ws at l) (at + 1) h) (at + 2) i (h - l + 1) 0 (omega arith)
        ∙ get_or-set_other (set ws at l) (at + 1) i h 0 (omega arith)
        ∙ get_or-set_other ws at i l 0 (omega arith);
    behind = λ i q.
        get_or-set_other (set (set ws at l) (at + 1) h) (at + 2) i (h - l + 1) 0 (omega arith)
        ∙ get_or-set_other (set ws at l) (at + 1) i h 0 (omega arith)
        ∙ get_or-set_other ws at i l 0 (omega arith);
  }
