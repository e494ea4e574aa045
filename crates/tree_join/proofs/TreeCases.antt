-- Cases of `attach_root` and `join`.
use Rattle.model.proofs.Prelude.{ℕ, ◌≤◌, ◌<◌, ◌+◌, ◌-◌, ◌*◌, suc, ◌^◌, ◌≡◌, ◌∙◌, ap, sym, subst, ap₂, List, [], ◌++◌, append-nil, length, arith}
use Rattle.model.specs.Runs.{Run}
use Rattle.run_lists.proofs.MemberLaws.{size-le}
use Rattle.tree_words.specs.TreeLayout.{low_at_of, high_at_of, total_at_of, leaves_at, leaves_of}
use Rattle.tree_words.specs.Nodes.{Good, Sep, put_two}
use Rattle.tree_join.specs.Joining.{Room, Beside, Pair, Both, Grows, AttachedRoot, Joins, slim}
use Rattle.tree_join.specs.declared.inner.Grown.{Grown}
use Rattle.tree_join.specs.declared.inner.Part.{Part}
use Rattle.tree_words.proofs.NodeLaws.{good-bounds, kept-kept, kept-none}
use Rattle.tree_words.proofs.SepLaws.{size-append, good-apart, good-total}
use Rattle.tree_words.proofs.MakeLaws.{two-kept, two_good, two-leaves}
use Rattle.tree_join.proofs.GroupCases.{or_none, or_some}
use Rattle.tree_join.proofs.JoinCases.{slim-lower}
use Rattle.tree_words.proofs.ChildLaws.{level_up, whole-good, good-whole, of_some, of_suc, of_none}

-- ---- one node or two

module _ (ws : List ℕ) (start free h a b : ℕ) (room : Room ws start free 8) (n : Pair ws start free h a b) where
  pub root_one : b ≡ 0 → AttachedRoot ws ws start free h a b (record { levels = h + 1; root = a; free = free })
  root_one z = record {
    whole = good-whole ws start free (h + 1) h a (omega arith) n.good_a;
    leaves = of_suc ws (h + 1) h a (omega arith) ∙ sym (ap (λ (x : List Run). leaves_at ws h a ++ x) (or_none ws h b z) ∙ append-nil (leaves_at ws h a));
    kept = kept-none ws free;
    spent = omega arith;
    at_least = omega arith;
    at_most = omega arith;
    thin = λ y. omega arith;
  }

  module _ (some : b ≡ 0 → ⊥) where
    gb : Good ws start free h b
    gb = n.good_b some

    sep2 : Sep (leaves_at ws h a ++ leaves_at ws h b)
    sep2 = subst (λ (x : List Run). Sep (leaves_at ws h a ++ x)) (or_some ws h b some) n.sep

    apart : high_at_of ws a + 2 ≤ low_at_of ws b
    apart = good-apart n.good_a gb 1 [] (subst (λ (x : List Run). Sep (leaves_at ws h a ++ x)) (sym (append-nil (leaves_at ws h b))) sep2)

    pub root_room : free + 8 ≤ length ws
    root_room = omega (arith, room.inside)

    pub root_a : a + 3 ≤ free
    root_a = (good-bounds n.good_a).ended

    pub root_b : b + 3 ≤ free
    root_b = (good-bounds gb).ended

    pub root_total : total_at_of ws a + total_at_of ws b ≤ 2 ^ 62
    root_total = omega (arith, size-le 1 (2 ^ 62) (leaves_at ws h a ++ leaves_at ws h b) sep2, size-append (leaves_at ws h a) (leaves_at ws h b), good-total n.good_a, good-total gb)

    pub root_two : (ws' : List ℕ) → ws' ≡ put_two ws free a b → AttachedRoot ws ws' start free h a b
        (record { levels = h + 2; root = free; free = free + 8 })
    root_two ws' e =
        rw e
        (record {
          whole = good-whole (put_two ws free a b) start (free + 8) (h + 2) (suc h) free (omega arith) (two_good ws start free h a b n.good_a gb apart root_room);
          leaves = of_suc (put_two ws free a b) (h + 2) (suc h) free (omega arith) ∙ two-leaves ws start free h a b n.good_a gb apart root_room
              ∙ sym (ap (λ (x : List Run). leaves_at ws h a ++ x) (or_some ws h b some));
          kept = two-kept ws start free h a b n.good_a gb apart root_room;
          spent = omega arith;
          at_least = omega arith;
          at_most = omega arith;
          thin = λ y. absurd (some y);
        })

-- ---- two trees

room-right : (l m f n : ℕ) → 1 ≤ m → m ≤ l → f + (16 * (l - m) + 16 * (m - l) + 8) ≤ n → f + 16 * (l - 1 - (m - 1)) ≤ n
room-right l m f n p q r = omega arith

room-left : (l m f n : ℕ) → 1 ≤ l → l < m → f + (16 * (l - m) + 16 * (m - l) + 8) ≤ n → f + 16 * (m - 1 - (l - 1)) ≤ n
room-left l m f n p q r = omega arith

after-right : (l m f n g : ℕ) → 1 ≤ m → m ≤ l → f + (16 * (l - m) + 16 * (m - l) + 8) ≤ n → g ≤ f + 16 * (l - 1 - (m - 1)) → g + 8 ≤ n
after-right l m f n g p q r s = omega arith

after-left : (l m f n g : ℕ) → 1 ≤ l → l < m → f + (16 * (l - m) + 16 * (m - l) + 8) ≤ n → g ≤ f + 16 * (m - 1 - (l - 1)) → g + 8 ≤ n
after-left l m f n g p q r s = omega arith

spent-right : (l m f g e : ℕ) → 1 ≤ m → m ≤ l → e ≤ g + 8 → g ≤ f + 16 * (l - 1 - (m - 1)) → e ≤ f + (16 * (l - m) + 16 * (m - l) + 8)
spent-right l m f g e p q r s = omega arith

spent-left : (l m f g e : ℕ) → 1 ≤ l → l < m → e ≤ g + 8 → g ≤ f + 16 * (m - 1 - (l - 1)) → e ≤ f + (16 * (l - m) + 16 * (m - l) + 8)
spent-left l m f g e p q r s = omega arith

module _ (ws : List ℕ) (start free l a m b : ℕ) (room : Room ws start free (16 * (l - m) + 16 * (m - l) + 8)) (n : Both ws start free l a m b) where
  pub join_second : l ≡ 0 → Joins ws ws start free l a m b (record { levels = m; root = b; free = free })
  join_second z = record {
    whole = n.whole_b;
    leaves = sym (ap (λ (x : List Run). x ++ leaves_of ws m b) (of_none ws l a z));
    kept = kept-none ws free;
    spent = omega arith;
    at_least_a = omega arith;
    at_least_b = omega arith;
    at_most = λ k p q. omega arith;
    thin_a = λ q r. omega arith;
    thin_b = λ q r. omega arith;
  }

  pub join_first : m ≡ 0 → Joins ws ws start free l a m b (record { levels = l; root = a; free = free })
  join_first z = record {
    whole = n.whole_a;
    leaves = sym (ap (λ (x : List Run). leaves_of ws l a ++ x) (of_none ws m b z) ∙ append-nil (leaves_of ws l a));
    kept = kept-none ws free;
    spent = omega arith;
    at_least_a = omega arith;
    at_least_b = omega arith;
    at_most = λ k p q. omega arith;
    thin_a = λ q r. omega arith;
    thin_b = λ q r. omega arith;
  }

  module _ (sl : l ≡ 0 → ⊥) (sm : m ≡ 0 → ⊥) where
    lp : l ≡ suc (l - 1)
    lp = level_up l sl

    mp : m ≡ suc (m - 1)
    mp = level_up m sm

    pub level_a : 1 ≤ l
    level_a = omega (arith, lp)

    pub level_b : 1 ≤ m
    level_b = omega (arith, mp)

    rows : leaves_of ws l a ++ leaves_of ws m b ≡ leaves_at ws (l - 1) a ++ leaves_at ws (m - 1) b
    rows = ap₂ (λ (x y : List Run). x ++ y) (of_some ws l a sl) (of_some ws m b sm)

    pub join_sep : Sep (leaves_at ws (l - 1) a ++ leaves_at ws (m - 1) b)
    join_sep = subst (λ (x : List Run). Sep x) rows n.sep

    module _ (q : m ≤ l) where
      pub right-room : Room ws start free (16 * (l - 1 - (m - 1)))
      right-room = record { headed = room.headed; begun = room.begun; inside = room-right l m free (length ws) level_b q room.inside }

      pub right-two : Beside ws start free (l - 1) a (m - 1) b
      right-two = record { higher = whole-good ws start free l a sl n.whole_a; lower = whole-good ws start free m b sm n.whole_b; order = omega arith }

      module _ (ws1 : List ℕ) (g : Grown)
          (r : Grows ws ws1 start free (l - 1) (16 * (l - 1 - (m - 1))) (slim ws (l - 1) a (m - 1)) (leaves_at ws (l - 1) a ++ leaves_at ws (m - 1) b) g) where
        pub right-root_room : Room ws1 start g.free 8
        right-root_room = record {
          headed = room.headed;
          begun = omega (arith, room.begun, r.kept.grown);
          inside = subst (λ (x : ℕ). g.free + 8 ≤ x) (sym r.kept.sized)
              (after-right l m free (length ws) g.free level_b q room.inside r.spent);
        }

        pub right-pair : Pair ws1 start g.free (l - 1) g.first g.second
        right-pair = record { small = omega (arith, n.small_a); good_a = r.first; good_b = r.second; sep = subst (λ (x : List Run). Sep x) (sym r.leaves) join_sep }

        pub right-joins : (ws2 : List ℕ) (p : Part)
            → AttachedRoot ws1 ws2 start g.free (l - 1) g.first g.second p
            → Joins ws ws2 start free l a m b p
        right-joins ws2 p s = record {
          whole = s.whole;
          leaves = s.leaves ∙ r.leaves ∙ sym rows;
          kept = kept-kept ws ws1 ws2 free g.free p.free r.kept s.kept;
          spent = spent-right l m free g.free p.free level_b q s.spent r.spent;
          at_least_a = omega (arith, s.at_least, lp);
          at_least_b = omega (arith, s.at_least, lp);
          at_most = λ k x y. omega (arith, s.at_most, lp);
          thin_a = λ y z. omega (arith, s.thin (r.thin (slim-lower ws (l - 1) a (m - 1) (omega (arith, lp, mp)) ∙ z)), lp);
          thin_b = λ y z. omega arith;
        }

    module _ (q : l < m) where
      pub left-room : Room ws start free (16 * (m - 1 - (l - 1)))
      left-room = record { headed = room.headed; begun = room.begun; inside = room-left l m free (length ws) level_a q room.inside }

      pub left-two : Beside ws start free (m - 1) b (l - 1) a
      left-two = record { higher = whole-good ws start free m b sm n.whole_b; lower = whole-good ws start free l a sl n.whole_a; order = omega arith }

      module _ (ws1 : List ℕ) (g : Grown)
          (r : Grows ws ws1 start free (m - 1) (16 * (m - 1 - (l - 1))) (slim ws (m - 1) b (l - 1)) (leaves_at ws (l - 1) a ++ leaves_at ws (m - 1) b) g) where
        pub left-root_room : Room ws1 start g.free 8
        left-root_room = record {
          headed = room.headed;
          begun = omega (arith, room.begun, r.kept.grown);
          inside = subst (λ (x : ℕ). g.free + 8 ≤ x) (sym r.kept.sized)
              (after-left l m free (length ws) g.free level_a q room.inside r.spent);
        }

        pub left-pair : Pair ws1 start g.free (m - 1) g.first g.second
        left-pair = record { small = omega (arith, n.small_b); good_a = r.first; good_b = r.second; sep = subst (λ (x : List Run). Sep x) (sym r.leaves) join_sep }

        pub left-joins : (ws2 : List ℕ) (p : Part)
            → AttachedRoot ws1 ws2 start g.free (m - 1) g.first g.second p
            → Joins ws ws2 start free l a m b p
        left-joins ws2 p s = record {
          whole = s.whole;
          leaves = s.leaves ∙ r.leaves ∙ sym rows;
          kept = kept-kept ws ws1 ws2 free g.free p.free r.kept s.kept;
          spent = spent-left l m free g.free p.free level_a q s.spent r.spent;
          at_least_a = omega (arith, s.at_least, mp);
          at_least_b = omega (arith, s.at_least, mp);
          at_most = λ k x y. omega (arith, s.at_most, mp);
          thin_a = λ y z. omega arith;
          thin_b = λ y z. omega (arith, s.thin (r.thin (slim-lower ws (m - 1) b (l - 1) (omega (arith, lp, mp)) ∙ z)), mp);
        }
