-- Cases of `above`: the child in which the part begins, with the children behind it joined.
use Rattle.model.proofs.Prelude.{ℕ, ◌≤◌, ◌<◌, ◌+◌, ◌-◌, ◌*◌, suc, ◌^◌, ◌≡◌, ◌∙◌, ap, refl, sym, subst, ap₂, true, Bool, false, List, ◌++◌, length}
use Rattle.model.proofs.Prelude.{leb, arith, leb-true, leb-false}
use Rattle.model.specs.Runs.{Run, size}
use Rattle.run_lists.proofs.MemberLaws.{size-le}
use Rattle.tree_words.specs.TreeLayout.{low_at_of, high_at_of, total_at_of, child1, child2, child3, leaves_at, leaves_of}
use Rattle.tree_words.specs.Nodes.{Good, good-two, good-three, Kept, Sep, put_two, last_child_of}
use Rattle.tree_join.specs.Joining.{Room, Both, Joins}
use Rattle.tree_split.specs.Splitting.{Splits, SplitInput}
use Rattle.tree_words.specs.KeptRuns.{keep_above}
use Rattle.tree_join.specs.declared.inner.Part.{Part}
use Rattle.tree_words.proofs.NodeLaws.{good-bounds, good-kept, leaves_kept, leaves-two, leaves-three, kept-kept}
use Rattle.tree_words.proofs.SepLaws.{size-append, good-total}
use Rattle.tree_words.proofs.MakeLaws.{two-kept, two_good, two-leaves}
use Rattle.tree_words.proofs.NodePutLaws.{node-7}
use Rattle.tree_words.proofs.ChildLaws.{good-whole, of_suc, good-1, good-2, good-last, last-two, last-three, level_up, good-up}
use Rattle.tree_words.proofs.KeepLaws.{good-within, good-sep, above-append, above-all, above-no, above-sep}
use Rattle.tree_split.proofs.PartRoom.{cost_join_up, room-join_up, room-four-up, cost_four-up}

-- ---- an inner node

module _ (ws : List ℕ) (start free h a high : ℕ) (n : SplitInput ws start free h a) (ne : h ≡ 0 → ⊥) where
  hp : h ≡ suc (h - 1)
  hp = level_up h ne

  top : Good ws start free (suc (h - 1)) a
  top = good-up h ne n.good

  row : leaves_at ws h a ≡ leaves_at ws (suc (h - 1)) a
  row = ap (λ (x : ℕ). leaves_at ws x a) hp

  sep-all : Sep (keep_above high (leaves_at ws h a))
  sep-all = above-sep (2 ^ 62) 1 high (leaves_at ws h a) (good-sep n.good)

  asks : (x : ℕ) → Good ws start free (h - 1) x → SplitInput ws start free (h - 1) x
  asks x g = record { room = record { headed = n.room.headed; begun = n.room.begun; inside = omega (arith, n.room.inside, hp) }; small = omega (arith, n.small); good = g }

  module _ (z : ℕ) (ez : z ≡ last_child_of ws a) where
    gz : Good ws start free (h - 1) z
    gz = rw ez (good-last top)

    pub last-in : z + 3 ≤ length ws
    last-in = omega (arith, (good-bounds gz).ended, n.room.inside)

    pub input_last : SplitInput ws start free (h - 1) z
    input_last = asks z gz

    module _ (t : Bool) (et : t ≡ leb (low_at_of ws z) (high + 1)) where
      -- the part begins in the last child
      module _ (yes : t ≡ true) where
        q1 : low_at_of ws z ≤ high + 1
        q1 = leb-true (low_at_of ws z) (high + 1) (sym et ∙ yes)

        only-last : (g : Good ws start free (suc (h - 1)) a) → keep_above high (leaves_at ws (suc (h - 1)) a) ≡ keep_above high (leaves_at ws (h - 1) z)
        only-last (good-two t x y) =
            let e = ez ∙ last-two ws (h - 1) a t.no_third in
            let low : low_at_of ws (child2 ws a) ≤ high + 1 = subst (λ (k : ℕ). low_at_of ws k ≤ high + 1) e q1 in
            ap (keep_above high) (leaves-two ws (h - 1) a t.no_third)
            ∙ above-append high (leaves_at ws (h - 1) (child1 ws a)) (leaves_at ws (h - 1) (child2 ws a))
            ∙ ap (λ (l : List Run). l ++ keep_above high (leaves_at ws (h - 1) (child2 ws a)))
            (above-no high (low_at_of ws (child1 ws a)) (high_at_of ws (child1 ws a)) (leaves_at ws (h - 1) (child1 ws a)) (good-within x) (omega (arith, low, t.apart)))
            ∙ ap (λ (k : ℕ). keep_above high (leaves_at ws (h - 1) k)) (sym e)
        only-last (good-three t x y w) =
            let e = ez ∙ last-three ws (h - 1) a t.some_third in
            let low : low_at_of ws (child3 ws a) ≤ high + 1 = subst (λ (k : ℕ). low_at_of ws k ≤ high + 1) e q1 in
            let bd = good-bounds y in
            ap (keep_above high) (leaves-three ws (h - 1) a t.some_third)
            ∙ above-append high (leaves_at ws (h - 1) (child1 ws a)) (leaves_at ws (h - 1) (child2 ws a) ++ leaves_at ws (h - 1) (child3 ws a))
            ∙ ap₂ (λ (l m : List Run). l ++ m)
            (above-no high (low_at_of ws (child1 ws a)) (high_at_of ws (child1 ws a)) (leaves_at ws (h - 1) (child1 ws a)) (good-within x) (omega (arith, low, t.apart, t.apart2, bd.order)))
            (above-append high (leaves_at ws (h - 1) (child2 ws a)) (leaves_at ws (h - 1) (child3 ws a))
            ∙ ap (λ (l : List Run). l ++ keep_above high (leaves_at ws (h - 1) (child3 ws a)))
            (above-no high (low_at_of ws (child2 ws a)) (high_at_of ws (child2 ws a)) (leaves_at ws (h - 1) (child2 ws a)) (good-within y) (omega (arith, low, t.apart2))))
            ∙ ap (λ (k : ℕ). keep_above high (leaves_at ws (h - 1) k)) (sym e)

        pub last-gives : (ws' : List ℕ) (p : Part) → Splits ws ws' start free (h - 1) (keep_above high (leaves_at ws (h - 1) z)) p
            → Splits ws ws' start free h (keep_above high (leaves_at ws h a)) p
        last-gives ws' p s = record {
          whole = s.whole;
          leaves = s.leaves ∙ sym (ap (keep_above high) row ∙ only-last top);
          kept = s.kept;
          spent = omega (arith, s.spent, hp);
          at_most = omega (arith, s.at_most, hp);
        }

      module _ (no : t ≡ false) (b d : ℕ) (eb : b ≡ child1 ws a) (ed : d ≡ child3 ws a) where
        q2 : high + 1 < low_at_of ws z
        q2 = leb-false (low_at_of ws z) (high + 1) (sym et ∙ no)

        gb : Good ws start free (h - 1) b
        gb = rw eb (good-1 top)

        keep-z : keep_above high (leaves_at ws (h - 1) z) ≡ leaves_at ws (h - 1) z
        keep-z = above-all high (low_at_of ws z) (high_at_of ws z) (leaves_at ws (h - 1) z) (good-within gz) q2

        -- a part of another child before the last one
        module _ (x : ℕ) (rows : keep_above high (leaves_at ws h a) ≡ keep_above high (leaves_at ws (h - 1) x) ++ leaves_at ws (h - 1) z)
            (ws1 : List ℕ) (p : Part) (s : Splits ws ws1 start free (h - 1) (keep_above high (leaves_at ws (h - 1) x)) p) where
          paid : p.free ≤ free + (16 * h + 16 * p.levels)
          paid = omega (arith, s.spent, hp)

          few : p.levels ≤ h
          few = omega (arith, s.at_most, hp)

          before-room : Room ws1 start p.free (16 * (p.levels - h) + 16 * (h - p.levels) + 8)
          before-room = record {
            headed = n.room.headed;
            begun = omega (arith, n.room.begun, s.kept.grown);
            inside = subst (λ (k : ℕ). p.free + (16 * (p.levels - h) + 16 * (h - p.levels) + 8) ≤ k) (sym s.kept.sized)
                (room-join_up h free p.free p.levels (length ws) paid few n.room.inside);
          }

          rows1 : leaves_of ws1 p.levels p.root ++ leaves_of ws1 h z ≡ keep_above high (leaves_at ws h a)
          rows1 = ap₂ (λ (l m : List Run). l ++ m) s.leaves (of_suc ws1 h (h - 1) z hp ∙ leaves_kept ws ws1 start free p.free s.kept gz) ∙ sym rows

          before-both : Both ws1 start p.free p.levels p.root h z
          before-both = record {
            small_a = omega (arith, n.small, few);
            small_b = omega (arith, n.small);
            whole_a = s.whole;
            whole_b = good-whole ws1 start p.free h (h - 1) z hp (good-kept ws ws1 start free p.free s.kept gz);
            sep = subst (λ (l : List Run). Sep l) (sym rows1) sep-all;
          }

          before-gives : (ws2 : List ℕ) (q : Part) → Joins ws1 ws2 start p.free p.levels p.root h z q → Splits ws ws2 start free h (keep_above high (leaves_at ws h a)) q
          before-gives ws2 q j = record {
            whole = j.whole;
            leaves = j.leaves ∙ rows1;
            kept = kept-kept ws ws1 ws2 free p.free q.free s.kept j.kept;
            spent = let w = cost_join_up h free p.free p.levels q.free paid few j.spent in omega (arith, w, j.at_least_b);
            at_most = omega (arith, j.at_most h few (omega arith));
          }

        -- two children: the part begins in the first
        module _ (none : d ≡ 0) where
          pub input-first : SplitInput ws start free (h - 1) b
          input-first = asks b gb

          rows2 : keep_above high (leaves_at ws h a) ≡ keep_above high (leaves_at ws (h - 1) b) ++ leaves_at ws (h - 1) z
          rows2 =
              let e = ez ∙ last-two ws (h - 1) a (sym ed ∙ none) in
              ap (keep_above high) (row ∙ leaves-two ws (h - 1) a (sym ed ∙ none) ∙ ap₂ (λ (x y : ℕ). leaves_at ws (h - 1) x ++ leaves_at ws (h - 1) y) (sym eb) (sym e))
              ∙ above-append high (leaves_at ws (h - 1) b) (leaves_at ws (h - 1) z)
              ∙ ap (λ (l : List Run). keep_above high (leaves_at ws (h - 1) b) ++ l) keep-z

          module _ (ws1 : List ℕ) (p : Part) (s : Splits ws ws1 start free (h - 1) (keep_above high (leaves_at ws (h - 1) b)) p) where
            pub first-room : Room ws1 start p.free (16 * (p.levels - h) + 16 * (h - p.levels) + 8)
            first-room = before-room b rows2 ws1 p s

            pub first-both : Both ws1 start p.free p.levels p.root h z
            first-both = before-both b rows2 ws1 p s

            pub first_gives : (ws2 : List ℕ) (q : Part) → Joins ws1 ws2 start p.free p.levels p.root h z q → Splits ws ws2 start free h (keep_above high (leaves_at ws h a)) q
            first_gives = before-gives b rows2 ws1 p s

        module _ (some : d ≡ 0 → ⊥) (c : ℕ) (ec : c ≡ child2 ws a) where
          gc : Good ws start free (h - 1) c
          gc = rw ec (good-2 top)

          pub second-in : c + 3 ≤ length ws
          second-in = omega (arith, (good-bounds gc).ended, n.room.inside)

          pub input-second : SplitInput ws start free (h - 1) c
          input-second = asks c gc

          rows3 : leaves_at ws h a ≡ leaves_at ws (h - 1) b ++ (leaves_at ws (h - 1) c ++ leaves_at ws (h - 1) z)
          rows3 = let e = ez ∙ last-three ws (h - 1) a (λ y. some (ed ∙ y)) in row ∙ leaves-three ws (h - 1) a (λ y. some (ed ∙ y)) ∙ rw (eb, ec, e) refl

          aparts : (high_at_of ws b + 2 ≤ low_at_of ws c) × (high_at_of ws c + 2 ≤ low_at_of ws z)
          aparts = go top
            where
              go : Good ws start free (suc (h - 1)) a → (high_at_of ws b + 2 ≤ low_at_of ws c) × (high_at_of ws c + 2 ≤ low_at_of ws z)
              go (good-two t x y) = absurd (some (ed ∙ t.no_third))
              go (good-three t x y w) = let e = ez ∙ last-three ws (h - 1) a t.some_third in rw (eb, ec, e) (t.apart, t.apart2)

          module _ (u : Bool) (eu : u ≡ leb (low_at_of ws c) (high + 1)) where
            -- the part begins in the second
            module _ (yes : u ≡ true) where
              rows-second : keep_above high (leaves_at ws h a) ≡ keep_above high (leaves_at ws (h - 1) c) ++ leaves_at ws (h - 1) z
              rows-second =
                  let q = leb-true (low_at_of ws c) (high + 1) (sym eu ∙ yes) in
                  ap (keep_above high) rows3
                  ∙ above-append high (leaves_at ws (h - 1) b) (leaves_at ws (h - 1) c ++ leaves_at ws (h - 1) z)
                  ∙ ap₂ (λ (l m : List Run). l ++ m)
                  (above-no high (low_at_of ws b) (high_at_of ws b) (leaves_at ws (h - 1) b) (good-within gb) (omega (arith, q, aparts.0)))
                  (above-append high (leaves_at ws (h - 1) c) (leaves_at ws (h - 1) z) ∙ ap (λ (l : List Run). keep_above high (leaves_at ws (h - 1) c) ++ l) keep-z)

              module _ (ws1 : List ℕ) (p : Part) (s : Splits ws ws1 start free (h - 1) (keep_above high (leaves_at ws (h - 1) c)) p) where
                pub second-room : Room ws1 start p.free (16 * (p.levels - h) + 16 * (h - p.levels) + 8)
                second-room = before-room c rows-second ws1 p s

                pub second-both : Both ws1 start p.free p.levels p.root h z
                second-both = before-both c rows-second ws1 p s

                pub second-gives : (ws2 : List ℕ) (q : Part) → Joins ws1 ws2 start p.free p.levels p.root h z q → Splits ws ws2 start free h (keep_above high (leaves_at ws h a)) q
                second-gives = before-gives c rows-second ws1 p s

            -- the part begins in the first of three
            module _ (out : u ≡ false) where
              q3 : high + 1 < low_at_of ws c
              q3 = leb-false (low_at_of ws c) (high + 1) (sym eu ∙ out)

              pub pair-room : free + 8 ≤ length ws
              pair-room = omega (arith, n.room.inside)

              pub pair-second : c + 3 ≤ free
              pair-second = (good-bounds gc).ended

              pub pair-last : z + 3 ≤ free
              pair-last = (good-bounds gz).ended

              pub pair-total : total_at_of ws c + total_at_of ws z ≤ 2 ^ 62
              pair-total =
                  let e2 = size-le 1 (2 ^ 62) (leaves_at ws h a) (good-sep n.good) in
                  let e3 = ap size rows3 in
                  let e4 = size-append (leaves_at ws (h - 1) b) (leaves_at ws (h - 1) c ++ leaves_at ws (h - 1) z) in
                  let e5 = size-append (leaves_at ws (h - 1) c) (leaves_at ws (h - 1) z) in
                  omega (arith, e2, e3, e4, e5, good-total gc, good-total gz)

              module _ (ws1 : List ℕ) (e1 : ws1 ≡ put_two ws free c z) where
                k : Kept ws ws1 free (free + 8)
                k = subst (λ (x : List ℕ). Kept ws x free (free + 8)) (sym e1) (two-kept ws start free (h - 1) c z gc gz aparts.1 pair-room)

                made1 : Good ws1 start (free + 8) (suc (h - 1)) free
                made1 = subst (λ (x : List ℕ). Good x start (free + 8) (suc (h - 1)) free) (sym e1) (two_good ws start free (h - 1) c z gc gz aparts.1 pair-room)

                slim1 : child3 ws1 free ≡ 0
                slim1 = ap (λ (x : List ℕ). child3 x free) e1 ∙ node-7 ws free (low_at_of ws c) (high_at_of ws z) (total_at_of ws c + total_at_of ws z) (low_at_of ws z) 0 c z 0 pair-room

                pub input-third : SplitInput ws1 start (free + 8) (h - 1) b
                input-third = record {
                  room = record { headed = n.room.headed; begun = omega (arith, n.room.begun); inside = omega (arith, n.room.inside, hp, k.sized) };
                  small = omega (arith, n.small);
                  good = good-kept ws ws1 start free (free + 8) k gb;
                }

                rows_made : leaves_at ws1 (suc (h - 1)) free ≡ leaves_at ws (h - 1) c ++ leaves_at ws (h - 1) z
                rows_made = ap (λ (x : List ℕ). leaves_at x (suc (h - 1)) free) e1 ∙ two-leaves ws start free (h - 1) c z gc gz aparts.1 pair-room

                last-three-rows : keep_above high (leaves_at ws h a) ≡ keep_above high (leaves_at ws (h - 1) b) ++ (leaves_at ws (h - 1) c ++ leaves_at ws (h - 1) z)
                last-three-rows =
                    ap (keep_above high) rows3
                    ∙ above-append high (leaves_at ws (h - 1) b) (leaves_at ws (h - 1) c ++ leaves_at ws (h - 1) z)
                    ∙ ap (λ (l : List Run). keep_above high (leaves_at ws (h - 1) b) ++ l)
                    (above-append high (leaves_at ws (h - 1) c) (leaves_at ws (h - 1) z)
                    ∙ ap₂ (λ (l m : List Run). l ++ m) (above-all high (low_at_of ws c) (high_at_of ws c) (leaves_at ws (h - 1) c) (good-within gc) q3) keep-z)

                module _ (ws2 : List ℕ) (p : Part) (s : Splits ws1 ws2 start (free + 8) (h - 1) (keep_above high (leaves_at ws1 (h - 1) b)) p) where
                  paid3 : p.free ≤ free + 8 + (16 * h + 16 * p.levels)
                  paid3 = omega (arith, s.spent, hp)

                  few3 : p.levels ≤ h
                  few3 = omega (arith, s.at_most, hp)

                  pub third-room : Room ws2 start p.free (16 * (p.levels - (h + 1)) + 16 * (h + 1 - p.levels) + 8)
                  third-room = record {
                    headed = n.room.headed;
                    begun = omega (arith, n.room.begun, s.kept.grown);
                    inside = subst (λ (x : ℕ). p.free + (16 * (p.levels - (h + 1)) + 16 * (h + 1 - p.levels) + 8) ≤ x) (sym (s.kept.sized ∙ k.sized))
                        (room-four-up h free p.free p.levels (length ws) paid3 few3 n.room.inside);
                  }

                  h2 : h + 1 ≡ suc (suc (h - 1))
                  h2 = omega (arith, hp)

                  rows4 : leaves_of ws2 p.levels p.root ++ leaves_of ws2 (h + 1) free ≡ keep_above high (leaves_at ws h a)
                  rows4 =
                      ap₂ (λ (l m : List Run). l ++ m)
                      (s.leaves ∙ ap (keep_above high) (leaves_kept ws ws1 start free (free + 8) k gb))
                      (of_suc ws2 (h + 1) (suc (h - 1)) free h2 ∙ leaves_kept ws1 ws2 start (free + 8) p.free s.kept made1 ∙ rows_made)
                      ∙ sym last-three-rows

                  pub third-both : Both ws2 start p.free p.levels p.root (h + 1) free
                  third-both = record {
                    small_a = omega (arith, n.small, few3);
                    small_b = omega (arith, n.small);
                    whole_a = s.whole;
                    whole_b = good-whole ws2 start p.free (h + 1) (suc (h - 1)) free h2 (good-kept ws1 ws2 start (free + 8) p.free s.kept made1);
                    sep = subst (λ (l : List Run). Sep l) (sym rows4) sep-all;
                  }

                  pub third-gives : (ws3 : List ℕ) (q : Part) → Joins ws2 ws3 start p.free p.levels p.root (h + 1) free q → Splits ws ws3 start free h
                      (keep_above high (leaves_at ws h a)) q
                  third-gives ws3 q j = record {
                    whole = j.whole;
                    leaves = j.leaves ∙ rows4;
                    kept = kept-kept ws ws1 ws3 free (free + 8) q.free k (kept-kept ws1 ws2 ws3 (free + 8) p.free q.free s.kept j.kept);
                    spent = let w = cost_four-up h free p.free p.levels q.free paid3 few3 j.spent in omega (arith, w, j.at_least_b);
                    at_most = j.thin_b (omega (arith, few3)) (s.kept.before (free + 7) (omega arith) ∙ slim1);
                  }
