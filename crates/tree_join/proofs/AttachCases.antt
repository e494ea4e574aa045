-- Cases of `attach_last` and `attach_first`: the children that are kept, and the new ones beside them.
use Rattle.model.proofs.Prelude.{ℕ, ◌≤◌, ◌+◌, suc, ◌≡◌, ◌∙◌, refl, sym, List, ◌++◌, append_assoc, append-nil, length, arith, rules, ne_eqb, eq-eqb}
use Rattle.model.specs.Runs.{Run}
use Rattle.tree_words.specs.TreeLayout.{child1, child2, child3, leaves_at}
use Rattle.tree_words.specs.Nodes.{Good, good-two, good-three, last_child_of}
use Rattle.tree_join.specs.Joining.{Room, Neighbours, AttachLast, AttachFirst, Grows, leaves_or, front_leaves, back_leaves}
use Rattle.tree_join.specs.declared.inner.Grown.{Grown}
use Rattle.tree_words.proofs.NodeLaws.{leaves-two, leaves-three, good-some}
use Rattle.tree_join.proofs.GroupCases.{or_none, or_some}
use Rattle.tree_words.proofs.ChildLaws.{good-3, last-three, good-1, good-2, good-end8, last-two}

module _ (ws : List ℕ) (h a : ℕ) where
  pub front-two : child3 ws a ≡ 0 → front_leaves ws h a ≡ leaves_at ws h (child1 ws a)
  unfolding front_leaves
  front-two e = rw (eq-eqb (child3 ws a) 0 e, front_leaves) refl

  pub front-three : (child3 ws a ≡ 0 → ⊥) → front_leaves ws h a ≡ leaves_at ws h (child1 ws a) ++ leaves_at ws h (child2 ws a)
  unfolding front_leaves
  front-three e = rw (ne_eqb (child3 ws a) 0 e, front_leaves) refl

  pub back-row : back_leaves ws h a ≡ leaves_at ws h (child2 ws a) ++ leaves_or ws h (child3 ws a)
  unfolding back_leaves
  back-row = refl

module _ {ws : List ℕ} {start free h a : ℕ} where
  pub leaves-front : Good ws start free (suc h) a → leaves_at ws (suc h) a ≡ front_leaves ws h a ++ leaves_at ws h (last_child_of ws a)
  leaves-front (good-two t b c) = rw (leaves-two ws h a t.no_third, front-two ws h a t.no_third, last-two ws h a t.no_third) refl
  leaves-front (good-three t b c d) =
      rw (leaves-three ws h a t.some_third, front-three ws h a t.some_third, last-three ws h a t.some_third)
      (sym (append_assoc (leaves_at ws h (child1 ws a)) (leaves_at ws h (child2 ws a)) (leaves_at ws h (child3 ws a))))

  pub leaves-back : Good ws start free (suc h) a → leaves_at ws (suc h) a ≡ leaves_at ws h (child1 ws a) ++ back_leaves ws h a
  leaves-back (good-two t b c) = rw (leaves-two ws h a t.no_third, back-row ws h a, or_none ws h (child3 ws a) t.no_third, append-nil (leaves_at ws h (child2 ws a))) refl
  leaves-back (good-three t b c d) = rw (leaves-three ws h a t.some_third, back-row ws h a, or_some ws h (child3 ws a) t.some_third) refl

pub slimmer : (ws ws' : List ℕ) (start free h p q : ℕ) {rs : List Run} (g : Grown) → (q ≡ 0 → p ≡ 0) → Grows ws ws' start free h 16 p rs g → Grows ws ws' start free h 16 q
    rs g
slimmer ws ws' start free h p q g f r = record { first = r.first; second = r.second; leaves = r.leaves; kept = r.kept; spent = r.spent; thin = λ e. r.thin (f e) }

-- ---- the last child replaced

module _ (ws : List ℕ) (start free h at a b : ℕ) (n : AttachLast ws start free h at a b) where
  pub last_word : Room ws start free 16 → at + 8 ≤ length ws
  last_word room = omega (arith, good-end8 n.node, room.inside)

  module _ (x z : ℕ) (ex : x ≡ child1 ws at) (ez : z ≡ child3 ws at) where
    module _ (none : z ≡ 0) where
      row-two : leaves_at ws h x ++ (leaves_at ws h a ++ (leaves_or ws h b ++ leaves_or ws h 0)) ≡ front_leaves ws h at ++ (leaves_at ws h a ++ leaves_or ws h b)
      row-two = rw (or_none ws h 0 refl, append-nil (leaves_or ws h b), front-two ws h at (sym ez ∙ none), ex) refl

      pub last-two-asks : Neighbours ws start free h x a b 0
      last-two-asks = record {
        good_a = rw ex (good-1 n.node);
        good_b = n.good_a;
        good_c = n.good_b;
        good_d = λ q. absurd (q refl);
        order = λ q. refl;
        sep = rw row-two n.sep;
      }

      pub last-two-gives : (ws' : List ℕ) (g : Grown)
          → Grows ws ws' start free (suc h) 16 0 (leaves_at ws h x ++ (leaves_at ws h a ++ (leaves_or ws h b ++ leaves_or ws h 0))) g
          → Grows ws ws' start free (suc h) 16 (child3 ws at) (front_leaves ws h at ++ (leaves_at ws h a ++ leaves_or ws h b)) g
      last-two-gives ws' g r = slimmer ws ws' start free (suc h) 0 (child3 ws at) g (λ e. refl) (rw row-two at r)

    module _ (y : ℕ) (ey : y ≡ child2 ws at) (some : z ≡ 0 → ⊥) (room : Room ws start free 16) where
      some_a : a ≡ 0 → ⊥
      some_a = good-some room.headed n.good_a

      row-three : leaves_at ws h x ++ (leaves_at ws h y ++ (leaves_or ws h a ++ leaves_or ws h b)) ≡ front_leaves ws h at ++ (leaves_at ws h a ++ leaves_or ws h b)
      row-three =
          rw (or_some ws h a some_a, front-three ws h at (λ q. some (ez ∙ q)), ex, ey)
          (sym (append_assoc (leaves_at ws h (child1 ws at)) (leaves_at ws h (child2 ws at)) (leaves_at ws h a ++ leaves_or ws h b)))

      pub last-three-asks : Neighbours ws start free h x y a b
      last-three-asks = record {
        good_a = rw ex (good-1 n.node);
        good_b = rw ey (good-2 n.node);
        good_c = λ q. n.good_a;
        good_d = n.good_b;
        order = λ q. absurd (some_a q);
        sep = rw row-three n.sep;
      }

      pub last-three-gives : (ws' : List ℕ) (g : Grown)
          → Grows ws ws' start free (suc h) 16 b (leaves_at ws h x ++ (leaves_at ws h y ++ (leaves_or ws h a ++ leaves_or ws h b))) g
          → Grows ws ws' start free (suc h) 16 (child3 ws at) (front_leaves ws h at ++ (leaves_at ws h a ++ leaves_or ws h b)) g
      last-three-gives ws' g r = slimmer ws ws' start free (suc h) b (child3 ws at) g (λ e. absurd (some (ez ∙ e))) (rw row-three at r)

-- ---- the first child replaced

module _ (ws : List ℕ) (start free h at a b : ℕ) (n : AttachFirst ws start free h at a b) where
  pub first-word : Room ws start free 16 → at + 8 ≤ length ws
  first-word room = omega (arith, good-end8 n.node, room.inside)

  module _ (y z : ℕ) (ey : y ≡ child2 ws at) (ez : z ≡ child3 ws at) where
    good_z : (z ≡ 0 → ⊥) → Good ws start free h z
    good_z q = rw ez (good-3 n.node (λ e. q (ez ∙ e)))

    module _ (none : b ≡ 0) where
      row_one : leaves_at ws h a ++ (leaves_at ws h y ++ (leaves_or ws h z ++ leaves_or ws h 0)) ≡ leaves_at ws h a ++ (leaves_or ws h b ++ back_leaves ws h at)
      row_one = rw (or_none ws h 0 refl, append-nil (leaves_or ws h z), or_none ws h b none, back-row ws h at, ey, ez) refl

      pub first-one-asks : Neighbours ws start free h a y z 0
      first-one-asks = record {
        good_a = n.good_a;
        good_b = rw ey (good-2 n.node);
        good_c = good_z;
        good_d = λ q. absurd (q refl);
        order = λ q. refl;
        sep = rw row_one n.sep;
      }

      pub first-one-gives : (ws' : List ℕ) (g : Grown)
          → Grows ws ws' start free (suc h) 16 0 (leaves_at ws h a ++ (leaves_at ws h y ++ (leaves_or ws h z ++ leaves_or ws h 0))) g
          → Grows ws ws' start free (suc h) 16 (child3 ws at) (leaves_at ws h a ++ (leaves_or ws h b ++ back_leaves ws h at)) g
      first-one-gives ws' g r = slimmer ws ws' start free (suc h) 0 (child3 ws at) g (λ e. refl) (rw row_one at r)

    module _ (some : b ≡ 0 → ⊥) (room : Room ws start free 16) where
      some_y : y ≡ 0 → ⊥
      some_y q = good-some room.headed (good-2 n.node) (sym ey ∙ q)

      row-both : leaves_at ws h a ++ (leaves_at ws h b ++ (leaves_or ws h y ++ leaves_or ws h z)) ≡ leaves_at ws h a ++ (leaves_or ws h b ++ back_leaves ws h at)
      row-both = rw (or_some ws h b some, or_some ws h y some_y, back-row ws h at, ey, ez) refl

      pub first-both-asks : Neighbours ws start free h a b y z
      first-both-asks = record {
        good_a = n.good_a;
        good_b = n.good_b some;
        good_c = λ q. rw ey (good-2 n.node);
        good_d = good_z;
        order = λ q. absurd (some_y q);
        sep = rw row-both n.sep;
      }

      pub first-both-gives : (ws' : List ℕ) (g : Grown)
          → Grows ws ws' start free (suc h) 16 z (leaves_at ws h a ++ (leaves_at ws h b ++ (leaves_or ws h y ++ leaves_or ws h z))) g
          → Grows ws ws' start free (suc h) 16 (child3 ws at) (leaves_at ws h a ++ (leaves_or ws h b ++ back_leaves ws h at)) g
      first-both-gives ws' g r = slimmer ws ws' start free (suc h) z (child3 ws at) g (λ e. ez ∙ e) (rw row-both at r)

pub ruleset attach-cases = (last_word, last-two-asks, last-two-gives, last-three-asks, last-three-gives, first-word, first-one-asks, first-one-gives, first-both-asks, first-both-gives, rules)
