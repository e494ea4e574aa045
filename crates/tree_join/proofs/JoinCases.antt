-- Cases of `join_right` and `join_left`: the lower tree is joined to the last or the first child, and what that makes replaces the child.
use Rattle.model.proofs.Prelude.{ℕ, ◌≤◌, ◌<◌, ◌+◌, ◌-◌, ◌*◌, suc, ◌^◌, ◌≡◌, ◌∙◌, ap, refl, sym, subst, ap₂, ⊎_elim, inl, inr, ◌⊎◌, List, ◌++◌}
use Rattle.model.proofs.Prelude.{append_assoc, length, arith, rules, lt-ltb, le-ltb}
use Rattle.model.specs.Runs.{Run}
use Rattle.model.proofs.BoolLaws.{le_or_lt}
use Rattle.run_lists.proofs.RunCutLaws.{sound-left}
use Rattle.tree_words.specs.TreeLayout.{child1, child2, child3, leaves_at}
use Rattle.tree_words.specs.Nodes.{Good, Kept, Sep, last_child_of}
use Rattle.tree_join.specs.Joining.{Room, AttachLast, AttachFirst, Grows, Beside, slim, leaves_or, front_leaves, back_leaves}
use Rattle.tree_join.specs.declared.inner.Grown.{Grown}
use Rattle.tree_words.proofs.NodeLaws.{good-kept, leaves_kept, kept-kept, kept-none, good-some}
use Rattle.tree_words.proofs.SepLaws.{sep-right}
use Rattle.tree_join.proofs.GroupCases.{or_none, or_some}
use Rattle.tree_words.proofs.ChildLaws.{good-end8, good-1, good-2, good-3, good-last}
use Rattle.tree_join.proofs.AttachCases.{leaves-front, leaves-back, front-two, front-three, back-row}

-- ---- a node's children are kept with it

module _ (ws ws' : List ℕ) (start free to h a : ℕ) (k : Kept ws ws' free to) (g : Good ws start free (suc h) a) where
  c1 : child1 ws' a ≡ child1 ws a
  c1 = k.before (a + 5) (omega (arith, good-end8 g))

  c2 : child2 ws' a ≡ child2 ws a
  c2 = k.before (a + 6) (omega (arith, good-end8 g))

  pub c3 : child3 ws' a ≡ child3 ws a
  c3 = k.before (a + 7) (omega (arith, good-end8 g))

  l1 : leaves_at ws' h (child1 ws' a) ≡ leaves_at ws h (child1 ws a)
  l1 = ap (leaves_at ws' h) c1 ∙ leaves_kept ws ws' start free to k (good-1 g)

  l2 : leaves_at ws' h (child2 ws' a) ≡ leaves_at ws h (child2 ws a)
  l2 = ap (leaves_at ws' h) c2 ∙ leaves_kept ws ws' start free to k (good-2 g)

  three-or : (child3 ws a ≡ 0) ⊎ (child3 ws a ≡ 0 → ⊥)
  three-or = ⊎_elim (λ q. inl (omega arith)) (λ q. inr (λ e. omega arith)) (le_or_lt (child3 ws a) 0)

  pub front_kept : front_leaves ws' h a ≡ front_leaves ws h a
  front_kept =
      ⊎_elim
      (λ (e : child3 ws a ≡ 0). front-two ws' h a (c3 ∙ e) ∙ l1 ∙ sym (front-two ws h a e))
      (λ (e : child3 ws a ≡ 0 → ⊥). front-three ws' h a (λ z. e (sym c3 ∙ z)) ∙ ap₂ (λ (x y : List Run). x ++ y) l1 l2 ∙ sym (front-three ws h a e))
      three-or

  l3 : leaves_or ws' h (child3 ws' a) ≡ leaves_or ws h (child3 ws a)
  l3 =
      ⊎_elim
      (λ (e : child3 ws a ≡ 0). or_none ws' h (child3 ws' a) (c3 ∙ e) ∙ sym (or_none ws h (child3 ws a) e))
      (λ (e : child3 ws a ≡ 0 → ⊥). or_some ws' h (child3 ws' a) (λ z. e (sym c3 ∙ z)) ∙ ap (leaves_at ws' h) c3 ∙ leaves_kept ws ws' start free to k (good-3 g e) ∙ sym
      (or_some ws h (child3 ws a) e))
      three-or

  pub back-kept : back_leaves ws' h a ≡ back_leaves ws h a
  back-kept = back-row ws' h a ∙ ap₂ (λ (x y : List Run). x ++ y) l2 l3 ∙ sym (back-row ws h a)

pub slim-lower : (ws : List ℕ) (h a k : ℕ) → k < h → slim ws h a k ≡ child3 ws a
unfolding slim
slim-lower ws h a k q = rw (lt-ltb k h q, slim) refl

slim-same : (ws : List ℕ) (h a k : ℕ) → h ≤ k → slim ws h a k ≡ 1
unfolding slim
slim-same ws h a k q = rw (le-ltb k h q, slim) refl

module _ (ws : List ℕ) (start free h a k b : ℕ) (room : Room ws start free (16 * (h - k))) (n : Beside ws start free h a k b) where
  -- ---- the same height
  module _ (e : h ≡ k) where
    lower_good : Good ws start free h b
    lower_good = subst (λ (x : ℕ). Good ws start free x b) (sym e) n.lower

    pub right-same : Grows ws ws start free h (16 * (h - k)) (slim ws h a k) (leaves_at ws h a ++ leaves_at ws k b) (record { first = a; second = b; free = free })
    right-same = record {
      first = n.higher;
      second = λ z. lower_good;
      leaves = ap (λ (x : List Run). leaves_at ws h a ++ x) (or_some ws h b (good-some room.headed lower_good) ∙ ap (λ (x : ℕ). leaves_at ws x b) e);
      kept = kept-none ws free;
      spent = omega arith;
      thin = λ z. let w = slim-same ws h a k (omega arith) in absurd (omega (arith, w));
    }

    pub left-same : Grows ws ws start free h (16 * (h - k)) (slim ws h a k) (leaves_at ws k b ++ leaves_at ws h a) (record { first = b; second = a; free = free })
    left-same = record {
      first = lower_good;
      second = λ z. n.higher;
      leaves = ap₂ (λ (x y : List Run). x ++ y) (ap (λ (x : ℕ). leaves_at ws x b) e) (or_some ws h a (good-some room.headed n.higher));
      kept = kept-none ws free;
      spent = omega arith;
      thin = λ z. let w = slim-same ws h a k (omega arith) in absurd (omega (arith, w));
    }

  -- ---- a lower tree
  module _ (ne : h ≡ k → ⊥) where
    lt : k < h
    lt = ⊎_elim (λ (q : h ≤ k). absurd (ne (omega (arith, n.order)))) (λ q. q) (le_or_lt h k)

    pub some_level : 1 ≤ h
    some_level = omega (arith, lt)

    hp : h ≡ suc (h - 1)
    hp = omega (arith, lt)

    top : Good ws start free (suc (h - 1)) a
    top = subst (λ (x : ℕ). Good ws start free x a) hp n.higher

    whole : leaves_at ws h a ≡ leaves_at ws (suc (h - 1)) a
    whole = ap (λ (x : ℕ). leaves_at ws x a) hp

    pub node_in : a + 8 ≤ length ws
    node_in = omega (arith, good-end8 top, room.inside)

    pub less : (t : ℕ) → h ≡ t → h - 1 < t
    less t e = omega (arith, lt)

    pub lower-room : Room ws start free (16 * (h - 1 - k))
    lower-room = record { headed = room.headed; begun = room.begun; inside = omega (arith, room.inside, lt) }

    module _ (x : ℕ) (ex : x ≡ last_child_of ws a) (sep : Sep (leaves_at ws h a ++ leaves_at ws k b)) where
      pub right-beside : Beside ws start free (h - 1) x k b
      right-beside = record { higher = rw ex (good-last top); lower = n.lower; order = omega (arith, lt) }

      row : leaves_at ws h a ++ leaves_at ws k b ≡ front_leaves ws (h - 1) a ++ (leaves_at ws (h - 1) x ++ leaves_at ws k b)
      row =
          ap (λ (l : List Run). l ++ leaves_at ws k b) (whole ∙ leaves-front top)
          ∙ append_assoc (front_leaves ws (h - 1) a) (leaves_at ws (h - 1) (last_child_of ws a)) (leaves_at ws k b)
          ∙ ap (λ (y : ℕ). front_leaves ws (h - 1) a ++ (leaves_at ws (h - 1) y ++ leaves_at ws k b)) (sym ex)

      pub right-sep : Sep (leaves_at ws (h - 1) x ++ leaves_at ws k b)
      right-sep =
          sep-right (2 ^ 62) 1 (front_leaves ws (h - 1) a) (leaves_at ws (h - 1) x ++ leaves_at ws k b) (omega arith)
          (subst (λ (l : List Run). Sep l) row sep)

      module _ (ws1 : List ℕ) (g : Grown)
          (r : Grows ws ws1 start free (h - 1) (16 * (h - 1 - k)) (slim ws (h - 1) x k) (leaves_at ws (h - 1) x ++ leaves_at ws k b) g) where
        pub right-room : Room ws1 start g.free 16
        right-room = record {
          headed = room.headed;
          begun = omega (arith, room.begun, r.kept.grown);
          inside = omega (arith, room.inside, r.spent, r.kept.sized, lt);
        }

        row1 : front_leaves ws1 (h - 1) a ++ (leaves_at ws1 (h - 1) g.first ++ leaves_or ws1 (h - 1) g.second) ≡ leaves_at ws h a ++ leaves_at ws k b
        row1 = ap₂ (λ (p q : List Run). p ++ q) (front_kept ws ws1 start free g.free (h - 1) a r.kept top) r.leaves ∙ sym row

        pub right-attach : AttachLast ws1 start g.free (h - 1) a g.first g.second
        right-attach = record {
          node = good-kept ws ws1 start free g.free r.kept top;
          good_a = r.first;
          good_b = r.second;
          sep = subst (λ (l : List Run). Sep l) (sym row1) sep;
        }

        pub right-gives : (ws2 : List ℕ) (g2 : Grown)
            → Grows ws1 ws2 start g.free (suc (h - 1)) 16 (child3 ws1 a) (front_leaves ws1 (h - 1) a ++ (leaves_at ws1 (h - 1) g.first ++ leaves_or ws1 (h - 1) g.second)) g2
            → Grows ws ws2 start free h (16 * (h - k)) (slim ws h a k) (leaves_at ws h a ++ leaves_at ws k b) g2
        right-gives ws2 g2 s = record {
          first = subst (λ (y : ℕ). Good ws2 start g2.free y g2.first) (sym hp) s.first;
          second = λ z. subst (λ (y : ℕ). Good ws2 start g2.free y g2.second) (sym hp) (s.second z);
          leaves = ap (λ (y : ℕ). leaves_at ws2 y g2.first ++ leaves_or ws2 y g2.second) hp ∙ s.leaves ∙ row1;
          kept = kept-kept ws ws1 ws2 free g.free g2.free r.kept s.kept;
          spent = omega (arith, s.spent, r.spent, lt);
          thin = λ z. s.thin (c3 ws ws1 start free g.free (h - 1) a r.kept top ∙ sym (slim-lower ws h a k lt) ∙ z);
        }

    module _ (x : ℕ) (ex : x ≡ child1 ws a) (sep : Sep (leaves_at ws k b ++ leaves_at ws h a)) where
      pub left-beside : Beside ws start free (h - 1) x k b
      left-beside = record { higher = rw ex (good-1 top); lower = n.lower; order = omega (arith, lt) }

      row_l : leaves_at ws k b ++ leaves_at ws h a ≡ (leaves_at ws k b ++ leaves_at ws (h - 1) x) ++ back_leaves ws (h - 1) a
      row_l =
          ap (λ (l : List Run). leaves_at ws k b ++ l) (whole ∙ leaves-back top)
          ∙ sym (append_assoc (leaves_at ws k b) (leaves_at ws (h - 1) (child1 ws a)) (back_leaves ws (h - 1) a))
          ∙ ap (λ (y : ℕ). (leaves_at ws k b ++ leaves_at ws (h - 1) y) ++ back_leaves ws (h - 1) a) (sym ex)

      pub left-sep : Sep (leaves_at ws k b ++ leaves_at ws (h - 1) x)
      left-sep = sound-left 1 (2 ^ 62) (leaves_at ws k b ++ leaves_at ws (h - 1) x) (back_leaves ws (h - 1) a) (subst (λ (l : List Run). Sep l) row_l sep)

      module _ (ws1 : List ℕ) (g : Grown)
          (r : Grows ws ws1 start free (h - 1) (16 * (h - 1 - k)) (slim ws (h - 1) x k) (leaves_at ws k b ++ leaves_at ws (h - 1) x) g) where
        pub left-room : Room ws1 start g.free 16
        left-room = record {
          headed = room.headed;
          begun = omega (arith, room.begun, r.kept.grown);
          inside = omega (arith, room.inside, r.spent, r.kept.sized, lt);
        }

        row_l1 : leaves_at ws1 (h - 1) g.first ++ (leaves_or ws1 (h - 1) g.second ++ back_leaves ws1 (h - 1) a) ≡ leaves_at ws k b ++ leaves_at ws h a
        row_l1 =
            sym (append_assoc (leaves_at ws1 (h - 1) g.first) (leaves_or ws1 (h - 1) g.second) (back_leaves ws1 (h - 1) a))
            ∙ ap₂ (λ (p q : List Run). p ++ q) r.leaves (back-kept ws ws1 start free g.free (h - 1) a r.kept top)
            ∙ sym row_l

        pub left-attach : AttachFirst ws1 start g.free (h - 1) a g.first g.second
        left-attach = record {
          node = good-kept ws ws1 start free g.free r.kept top;
          good_a = r.first;
          good_b = r.second;
          sep = subst (λ (l : List Run). Sep l) (sym row_l1) sep;
        }

        pub left-gives : (ws2 : List ℕ) (g2 : Grown)
            → Grows ws1 ws2 start g.free (suc (h - 1)) 16 (child3 ws1 a) (leaves_at ws1 (h - 1) g.first ++ (leaves_or ws1 (h - 1) g.second ++ back_leaves ws1 (h - 1) a)) g2
            → Grows ws ws2 start free h (16 * (h - k)) (slim ws h a k) (leaves_at ws k b ++ leaves_at ws h a) g2
        left-gives ws2 g2 s = record {
          first = subst (λ (y : ℕ). Good ws2 start g2.free y g2.first) (sym hp) s.first;
          second = λ z. subst (λ (y : ℕ). Good ws2 start g2.free y g2.second) (sym hp) (s.second z);
          leaves = ap (λ (y : ℕ). leaves_at ws2 y g2.first ++ leaves_or ws2 y g2.second) hp ∙ s.leaves ∙ row_l1;
          kept = kept-kept ws ws1 ws2 free g.free g2.free r.kept s.kept;
          spent = omega (arith, s.spent, r.spent, lt);
          thin = λ z. s.thin (c3 ws ws1 start free g.free (h - 1) a r.kept top ∙ sym (slim-lower ws h a k lt) ∙ z);
        }

pub ruleset join-cases = (
  right-same,
  left-same,
  some_level,
  node_in,
  less,
  lower-room,
  right-beside,
  right-sep,
  right-room,
  right-attach,
  right-gives,
  left-beside,
  left-sep,
  left-room,
  left-attach,
  left-gives,
  rules,
)
