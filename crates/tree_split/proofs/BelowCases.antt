-- Cases of `below`: the child in which the part ends, with the children before it joined.
use Rattle.model.proofs.Prelude.{ℕ, ◌≤◌, ◌<◌, ◌+◌, ◌-◌, ◌*◌, suc, ◌^◌, ◌≡◌, ◌∙◌, ap, refl, sym, subst, ap₂, ⊎_elim, ◌⊎◌, true, Bool, false, ◌||◌}
use Rattle.model.proofs.Prelude.{List, ◌++◌, append_assoc, append-nil, length, leb, eqb, arith, eq-eqb, leb-true, leb-false}
use borrow.Author.Tests.{eqb-true}
use Rattle.model.specs.Runs.{Run, size}
use Rattle.model.proofs.BoolLaws.{le_or_lt}
use Rattle.run_lists.proofs.MemberLaws.{size-le}
use Rattle.tree_words.specs.TreeLayout.{low_at_of, high_at_of, total_at_of, child1, child2, child3, leaves_at, leaves_of}
use Rattle.tree_words.specs.Nodes.{Good, good-two, good-three, Kept, Sep, put_two}
use Rattle.tree_join.specs.Joining.{Room, Both, Joins}
use Rattle.tree_split.specs.Splitting.{Splits, SplitInput}
use Rattle.tree_words.specs.KeptRuns.{keep_below}
use Rattle.tree_join.specs.declared.inner.Part.{Part}
use Rattle.tree_words.proofs.NodeLaws.{good-bounds, good-kept, leaves_kept, leaves-two, leaves-three, kept-kept}
use Rattle.tree_words.proofs.SepLaws.{size-append, good-total}
use Rattle.tree_words.proofs.MakeLaws.{two-kept, two_good, two-leaves}
use Rattle.tree_words.proofs.NodePutLaws.{node-7}
use Rattle.tree_words.proofs.ChildLaws.{good-whole, of_suc, good-end8, good-1, good-2, good-3, level_up, good-up}
use Rattle.tree_words.proofs.KeepLaws.{good-within, good-sep, below-append, below_all, below-no, below-sep}
use Rattle.tree_split.proofs.FirstChildLaws.{below-first}
use Rattle.tree_split.proofs.SecondCases.{or_cases-true, or_cases-false}
use Rattle.tree_split.proofs.PartRoom.{cost_join, room-join, room-four, cost_four}

-- ---- an inner node

module _ (ws : List ℕ) (start free h a low : ℕ) (n : SplitInput ws start free h a) (ne : h ≡ 0 → ⊥) where
  hp : h ≡ suc (h - 1)
  hp = level_up h ne

  top : Good ws start free (suc (h - 1)) a
  top = good-up h ne n.good

  pub node_in : a + 8 ≤ length ws
  node_in = omega (arith, good-end8 top, n.room.inside)

  row : leaves_at ws h a ≡ leaves_at ws (suc (h - 1)) a
  row = ap (λ (x : ℕ). leaves_at ws x a) hp

  sep-all : Sep (keep_below low (leaves_at ws h a))
  sep-all = below-sep (2 ^ 62) 1 low (leaves_at ws h a) (good-sep n.good)

  module _ (b : ℕ) (eb : b ≡ child1 ws a) where
    gb : Good ws start free (h - 1) b
    gb = rw eb (good-1 top)

    pub first-in : b + 3 ≤ length ws
    first-in = omega (arith, (good-bounds gb).ended, n.room.inside)

    pub first_small : high_at_of ws b ≤ 2 ^ 62
    first_small = (good-bounds gb).most

    pub input-first : SplitInput ws start free (h - 1) b
    input-first = record { room = record { headed = n.room.headed; begun = n.room.begun; inside = omega (arith, n.room.inside, hp) }; small = omega (arith, n.small); good = gb }

    module _ (t : Bool) (et : t ≡ leb low (high_at_of ws b + 1)) where
      -- the part ends in the first child
      module _ (yes : t ≡ true) where
        q1 : low ≤ high_at_of ws b + 1
        q1 = leb-true low (high_at_of ws b + 1) (sym et ∙ yes)

        only-first : (g : Good ws start free (suc (h - 1)) a) → keep_below low (leaves_at ws (suc (h - 1)) a) ≡ keep_below low (leaves_at ws (h - 1) b)
        only-first g = below-first low g (omega (arith, q1, ap (high_at_of ws) eb)) ∙ ap (λ (x : ℕ). keep_below low (leaves_at ws (h - 1) x)) (sym eb)

        pub first_gives : (ws' : List ℕ) (p : Part) → Splits ws ws' start free (h - 1) (keep_below low (leaves_at ws (h - 1) b)) p
            → Splits ws ws' start free h (keep_below low (leaves_at ws h a)) p
        first_gives ws' p s = record {
          whole = s.whole;
          leaves = s.leaves ∙ sym (ap (keep_below low) row ∙ only-first top);
          kept = s.kept;
          spent = omega (arith, s.spent, hp);
          at_most = omega (arith, s.at_most, hp);
        }

      module _ (no : t ≡ false) (c d : ℕ) (ec : c ≡ child2 ws a) (ed : d ≡ child3 ws a) where
        q2 : high_at_of ws b + 1 < low
        q2 = leb-false low (high_at_of ws b + 1) (sym et ∙ no)

        gc : Good ws start free (h - 1) c
        gc = rw ec (good-2 top)

        pub second-in : c + 3 ≤ length ws
        second-in = omega (arith, (good-bounds gc).ended, n.room.inside)

        pub second-small : high_at_of ws c ≤ 2 ^ 62
        second-small = (good-bounds gc).most

        pub input-second : SplitInput ws start free (h - 1) c
        input-second = record { room = record { headed = n.room.headed; begun = n.room.begun; inside = omega (arith, n.room.inside, hp) }; small = omega (arith, n.small); good = gc }

        keep-b : keep_below low (leaves_at ws (h - 1) b) ≡ leaves_at ws (h - 1) b
        keep-b = below_all low (low_at_of ws b) (high_at_of ws b) (leaves_at ws (h - 1) b) (good-within gb) q2

        rows2 : d ≡ 0 → leaves_at ws h a ≡ leaves_at ws (h - 1) b ++ leaves_at ws (h - 1) c
        rows2 z = row ∙ leaves-two ws (h - 1) a (sym ed ∙ z) ∙ ap₂ (λ (x y : ℕ). leaves_at ws (h - 1) x ++ leaves_at ws (h - 1) y) (sym eb) (sym ec)

        rows3 : (d ≡ 0 → ⊥) → leaves_at ws h a ≡ leaves_at ws (h - 1) b ++ (leaves_at ws (h - 1) c ++ leaves_at ws (h - 1) d)
        rows3 z = row ∙ leaves-three ws (h - 1) a (λ y. z (ed ∙ y)) ∙ rw (eb, ec, ed) refl

        pub third-good : (d ≡ 0 → ⊥) → Good ws start free (h - 1) d
        third-good z = rw ed (good-3 top (λ y. z (ed ∙ y)))

        apart-cd : (d ≡ 0 → ⊥) → high_at_of ws c + 2 ≤ low_at_of ws d
        apart-cd z = go top
          where
            go : Good ws start free (suc (h - 1)) a → high_at_of ws c + 2 ≤ low_at_of ws d
            go (good-two t x y) = absurd (z (ed ∙ t.no_third))
            go (good-three t x y w) = rw (ec, ed) t.apart2

        apart-bc : high_at_of ws b + 2 ≤ low_at_of ws c
        apart-bc = go top
          where
            go : Good ws start free (suc (h - 1)) a → high_at_of ws b + 2 ≤ low_at_of ws c
            go (good-two t x y) = rw (eb, ec) t.apart
            go (good-three t x y w) = rw (eb, ec) t.apart

        module _ (u : Bool) (eu : u ≡ (eqb d 0 || leb low (high_at_of ws c + 1))) where
          -- the part ends in the second child
          module _ (yes : u ≡ true) where
            first_two : keep_below low (leaves_at ws h a) ≡ leaves_at ws (h - 1) b ++ keep_below low (leaves_at ws (h - 1) c)
            first_two =
                ⊎_elim
                (λ (z : d ≤ 0).
                ap (keep_below low) (rows2 (omega arith)) ∙ below-append low (leaves_at ws (h - 1) b) (leaves_at ws (h - 1) c) ∙ ap
                (λ (l : List Run). l ++ keep_below low (leaves_at ws (h - 1) c)) keep-b)
                (λ (z : 0 < d).
                let some : d ≡ 0 → ⊥ = λ y. omega arith in
                let q : low ≤ high_at_of ws c + 1 =
                ⊎_elim (λ (e : eqb d 0 ≡ true). absurd (some (eqb-true d 0 e))) (λ (e : leb low (high_at_of ws c + 1) ≡ true). leb-true low (high_at_of ws c + 1) e)
                (or_cases-true (eqb d 0) (leb low (high_at_of ws c + 1)) (sym eu ∙ yes)) in
                ap (keep_below low) (rows3 some)
                ∙ below-append low (leaves_at ws (h - 1) b) (leaves_at ws (h - 1) c ++ leaves_at ws (h - 1) d)
                ∙ ap₂ (λ (l m : List Run). l ++ m) keep-b
                (below-append low (leaves_at ws (h - 1) c) (leaves_at ws (h - 1) d)
                ∙ ap (λ (l : List Run). keep_below low (leaves_at ws (h - 1) c) ++ l)
                (below-no low (low_at_of ws d) (high_at_of ws d) (leaves_at ws (h - 1) d) (good-within (third-good some)) (omega (arith, q, apart-cd some)))
                ∙ append-nil (keep_below low (leaves_at ws (h - 1) c))))
                (le_or_lt d 0)

            module _ (ws1 : List ℕ) (p : Part) (s : Splits ws ws1 start free (h - 1) (keep_below low (leaves_at ws (h - 1) c)) p) where
              paid : p.free ≤ free + (16 * h + 16 * p.levels)
              paid = omega (arith, s.spent, hp)

              few : p.levels ≤ h
              few = omega (arith, s.at_most, hp)

              pub second-room : Room ws1 start p.free (16 * (h - p.levels) + 16 * (p.levels - h) + 8)
              second-room = record {
                headed = n.room.headed;
                begun = omega (arith, n.room.begun, s.kept.grown);
                inside = subst (λ (x : ℕ). p.free + (16 * (h - p.levels) + 16 * (p.levels - h) + 8) ≤ x) (sym s.kept.sized)
                    (room-join h free p.free p.levels (length ws) paid few n.room.inside);
              }

              rows1 : leaves_of ws1 h b ++ leaves_of ws1 p.levels p.root ≡ keep_below low (leaves_at ws h a)
              rows1 = ap₂ (λ (l m : List Run). l ++ m) (of_suc ws1 h (h - 1) b hp ∙ leaves_kept ws ws1 start free p.free s.kept gb) s.leaves ∙ sym first_two

              pub second-both : Both ws1 start p.free h b p.levels p.root
              second-both = record {
                small_a = omega (arith, n.small);
                small_b = omega (arith, n.small, few);
                whole_a = good-whole ws1 start p.free h (h - 1) b hp (good-kept ws ws1 start free p.free s.kept gb);
                whole_b = s.whole;
                sep = subst (λ (l : List Run). Sep l) (sym rows1) sep-all;
              }

              pub second-gives : (ws2 : List ℕ) (q : Part) → Joins ws1 ws2 start p.free h b p.levels p.root q
                  → Splits ws ws2 start free h (keep_below low (leaves_at ws h a)) q
              second-gives ws2 q j = record {
                whole = j.whole;
                leaves = j.leaves ∙ rows1;
                kept = kept-kept ws ws1 ws2 free p.free q.free s.kept j.kept;
                spent = let w = cost_join h free p.free p.levels q.free paid few j.spent in omega (arith, w, j.at_least_a);
                at_most = omega (arith, j.at_most h (omega arith) few);
              }

          -- the part ends in the third child
          module _ (out : u ≡ false) where
            some : d ≡ 0 → ⊥
            some z = let w = (or_cases-false (eqb d 0) (leb low (high_at_of ws c + 1)) (sym eu ∙ out)).0 in mathlib.Core.Bool.true≢false (sym (eq-eqb d 0 z) ∙ w)

            q3 : high_at_of ws c + 1 < low
            q3 = leb-false low (high_at_of ws c + 1) (or_cases-false (eqb d 0) (leb low (high_at_of ws c + 1)) (sym eu ∙ out)).1

            gd : Good ws start free (h - 1) d
            gd = third-good some

            pub pair-room : free + 8 ≤ length ws
            pair-room = omega (arith, n.room.inside)

            pub pair-first : b + 3 ≤ free
            pair-first = (good-bounds gb).ended

            pub pair-second : c + 3 ≤ free
            pair-second = (good-bounds gc).ended

            pub pair-total : total_at_of ws b + total_at_of ws c ≤ 2 ^ 62
            pair-total =
                let e1 = good-total n.good in
                let e2 = size-le 1 (2 ^ 62) (leaves_at ws h a) (good-sep n.good) in
                let e3 = ap size (rows3 some) in
                let e4 = size-append (leaves_at ws (h - 1) b) (leaves_at ws (h - 1) c ++ leaves_at ws (h - 1) d) in
                let e5 = size-append (leaves_at ws (h - 1) c) (leaves_at ws (h - 1) d) in
                omega (arith, e2, e3, e4, e5, good-total gb, good-total gc)

            k1 : Kept ws (put_two ws free b c) free (free + 8)
            k1 = two-kept ws start free (h - 1) b c gb gc apart-bc pair-room

            made : Good (put_two ws free b c) start (free + 8) (suc (h - 1)) free
            made = two_good ws start free (h - 1) b c gb gc apart-bc pair-room

            module _ (ws1 : List ℕ) (e1 : ws1 ≡ put_two ws free b c) where
              k : Kept ws ws1 free (free + 8)
              k = subst (λ (x : List ℕ). Kept ws x free (free + 8)) (sym e1) k1

              made1 : Good ws1 start (free + 8) (suc (h - 1)) free
              made1 = subst (λ (x : List ℕ). Good x start (free + 8) (suc (h - 1)) free) (sym e1) made

              slim1 : child3 ws1 free ≡ 0
              slim1 = ap (λ (x : List ℕ). child3 x free) e1 ∙ node-7 ws free (low_at_of ws b) (high_at_of ws c) (total_at_of ws b + total_at_of ws c) (low_at_of ws c) 0 b c 0 pair-room

              pub input-third : SplitInput ws1 start (free + 8) (h - 1) d
              input-third = record {
                room = record { headed = n.room.headed; begun = omega (arith, n.room.begun); inside = omega (arith, n.room.inside, hp, k.sized) };
                small = omega (arith, n.small);
                good = good-kept ws ws1 start free (free + 8) k gd;
              }

              rows_made : leaves_at ws1 (suc (h - 1)) free ≡ leaves_at ws (h - 1) b ++ leaves_at ws (h - 1) c
              rows_made = ap (λ (x : List ℕ). leaves_at x (suc (h - 1)) free) e1 ∙ two-leaves ws start free (h - 1) b c gb gc apart-bc pair-room

              first_three : keep_below low (leaves_at ws h a) ≡ (leaves_at ws (h - 1) b ++ leaves_at ws (h - 1) c) ++ keep_below low (leaves_at ws (h - 1) d)
              first_three =
                  ap (keep_below low) (rows3 some)
                  ∙ below-append low (leaves_at ws (h - 1) b) (leaves_at ws (h - 1) c ++ leaves_at ws (h - 1) d)
                  ∙ ap₂ (λ (l m : List Run). l ++ m) keep-b
                  (below-append low (leaves_at ws (h - 1) c) (leaves_at ws (h - 1) d)
                  ∙ ap (λ (l : List Run). l ++ keep_below low (leaves_at ws (h - 1) d)) (below_all low (low_at_of ws c) (high_at_of ws c) (leaves_at ws (h - 1) c) (good-within gc) q3))
                  ∙ sym (append_assoc (leaves_at ws (h - 1) b) (leaves_at ws (h - 1) c) (keep_below low (leaves_at ws (h - 1) d)))

              module _ (ws2 : List ℕ) (p : Part) (s : Splits ws1 ws2 start (free + 8) (h - 1) (keep_below low (leaves_at ws1 (h - 1) d)) p) where
                paid3 : p.free ≤ free + 8 + (16 * h + 16 * p.levels)
                paid3 = omega (arith, s.spent, hp)

                few3 : p.levels ≤ h
                few3 = omega (arith, s.at_most, hp)

                pub third-room : Room ws2 start p.free (16 * (h + 1 - p.levels) + 16 * (p.levels - (h + 1)) + 8)
                third-room = record {
                  headed = n.room.headed;
                  begun = omega (arith, n.room.begun, s.kept.grown);
                  inside = subst (λ (x : ℕ). p.free + (16 * (h + 1 - p.levels) + 16 * (p.levels - (h + 1)) + 8) ≤ x) (sym (s.kept.sized ∙ k.sized))
                      (room-four h free p.free p.levels (length ws) paid3 few3 n.room.inside);
                }

                h2 : h + 1 ≡ suc (suc (h - 1))
                h2 = omega (arith, hp)

                rows4 : leaves_of ws2 (h + 1) free ++ leaves_of ws2 p.levels p.root ≡ keep_below low (leaves_at ws h a)
                rows4 =
                    ap₂ (λ (l m : List Run). l ++ m)
                    (of_suc ws2 (h + 1) (suc (h - 1)) free h2 ∙ leaves_kept ws1 ws2 start (free + 8) p.free s.kept made1 ∙ rows_made)
                    (s.leaves ∙ ap (keep_below low) (leaves_kept ws ws1 start free (free + 8) k gd))
                    ∙ sym first_three

                pub third-both : Both ws2 start p.free (h + 1) free p.levels p.root
                third-both = record {
                  small_a = omega (arith, n.small);
                  small_b = omega (arith, n.small, few3);
                  whole_a = good-whole ws2 start p.free (h + 1) (suc (h - 1)) free h2 (good-kept ws1 ws2 start (free + 8) p.free s.kept made1);
                  whole_b = s.whole;
                  sep = subst (λ (l : List Run). Sep l) (sym rows4) sep-all;
                }

                pub third-gives : (ws3 : List ℕ) (q : Part) → Joins ws2 ws3 start p.free (h + 1) free p.levels p.root q
                    → Splits ws ws3 start free h (keep_below low (leaves_at ws h a)) q
                third-gives ws3 q j = record {
                  whole = j.whole;
                  leaves = j.leaves ∙ rows4;
                  kept = kept-kept ws ws1 ws3 free (free + 8) q.free k (kept-kept ws1 ws2 ws3 (free + 8) p.free q.free s.kept j.kept);
                  spent = let w = cost_four h free p.free p.levels q.free paid3 few3 j.spent in omega (arith, w, j.at_least_a);
                  at_most = j.thin_a (omega (arith, few3)) (s.kept.before (free + 7) (omega arith) ∙ slim1);
                }
