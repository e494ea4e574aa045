-- Cases of `group`: two, three and four neighbours.
use Rattle.model.proofs.Prelude.{ℕ, ◌≤◌, ◌+◌, suc, ◌^◌, ◌≡◌, ◌∙◌, ap, refl, sym, ap₂, List, [], ◌++◌, append_assoc, append-nil, length, arith, rules}
use Rattle.model.proofs.Prelude.{ne_eqb, eq-eqb}
use Rattle.model.specs.Runs.{Run, size, Separated}
use Rattle.run_lists.proofs.MemberLaws.{size-le}
use Rattle.tree_words.specs.TreeLayout.{low_at_of, high_at_of, total_at_of, leaves_at}
use Rattle.tree_words.specs.Nodes.{Good, Kept, put_two, put_three_of}
use Rattle.tree_join.specs.Joining.{Room, Neighbours, Grows, leaves_or}
use Rattle.tree_join.specs.declared.inner.Grown.{Grown}
use Rattle.tree_words.proofs.NodeLaws.{good-bounds, good-kept, leaves_kept, kept-kept}
use Rattle.tree_words.proofs.SepLaws.{size-append, good-apart, good-total, good-rest}
use Rattle.tree_words.proofs.MakeLaws.{two-kept, two_good, two-leaves, three-kept, three-good, three-leaves}

pub or_none : (ws : List ℕ) (h a : ℕ) → a ≡ 0 → leaves_or ws h a ≡ []
unfolding leaves_or
or_none ws h a e = rw (eq-eqb a 0 e, leaves_or) refl

pub or_some : (ws : List ℕ) (h a : ℕ) → (a ≡ 0 → ⊥) → leaves_or ws h a ≡ leaves_at ws h a
unfolding leaves_or
or_some ws h a e = rw (ne_eqb a 0 e, leaves_or) refl

pub one-row : (ws : List ℕ) (h a : ℕ) → leaves_at ws h a ++ leaves_or ws h 0 ≡ leaves_at ws h a
one-row ws h a = rw (or_none ws h 0 refl) (append-nil (leaves_at ws h a))

module _ (ws : List ℕ) (start free h a b c d : ℕ) (room : Room ws start free 16) (n : Neighbours ws start free h a b c d) where
  pub ends : (a + 3 ≤ free) × (b + 3 ≤ free)
  ends = ((good-bounds n.good_a).ended, (good-bounds n.good_b).ended)

  apart-ab : high_at_of ws a + 2 ≤ low_at_of ws b
  apart-ab = good-apart n.good_a n.good_b 1 (leaves_or ws h c ++ leaves_or ws h d) n.sep

  pub two_fits : free + 8 ≤ length ws
  two_fits = omega (arith, room.inside)

  pub end-a : a + 3 ≤ free
  end-a = (good-bounds n.good_a).ended

  pub end-b : b + 3 ≤ free
  end-b = (good-bounds n.good_b).ended

  total-all : size (leaves_at ws h a ++ (leaves_at ws h b ++ (leaves_or ws h c ++ leaves_or ws h d))) ≤ 2 ^ 62
  total-all = size-le 1 (2 ^ 62) (leaves_at ws h a ++ (leaves_at ws h b ++ (leaves_or ws h c ++ leaves_or ws h d))) n.sep

  total-parts : total_at_of ws a + total_at_of ws b + size (leaves_or ws h c) + size (leaves_or ws h d) ≤ 2 ^ 62
  total-parts =
      omega (
        arith,
        total-all,
        good-total n.good_a,
        good-total n.good_b,
        size-append (leaves_at ws h a) (leaves_at ws h b ++ (leaves_or ws h c ++ leaves_or ws h d)),
        size-append (leaves_at ws h b) (leaves_or ws h c ++ leaves_or ws h d),
        size-append (leaves_or ws h c) (leaves_or ws h d),
      )

  pub two-total : total_at_of ws a + total_at_of ws b ≤ 2 ^ 62
  two-total = omega (arith, total-parts)

  -- two
  module _ (noC : c ≡ 0) where
    row2 : leaves_at ws h a ++ (leaves_at ws h b ++ (leaves_or ws h c ++ leaves_or ws h d)) ≡ leaves_at ws h a ++ leaves_at ws h b
    row2 = rw (or_none ws h c noC, or_none ws h d (n.order noC), append-nil (leaves_at ws h b)) refl

    pub group_two : (ws' : List ℕ) (g : Grown) → ws' ≡ put_two ws free a b → g ≡ record { first = free; second = 0; free = free + 8 }
        → Grows ws ws' start free (suc h) 16 d (leaves_at ws h a ++ (leaves_at ws h b ++ (leaves_or ws h c ++ leaves_or ws h d))) g
    group_two ws' g e f =
        rw (e, f, row2)
        (record {
          first = two_good ws start free h a b n.good_a n.good_b apart-ab two_fits;
          second = λ z. absurd (z refl);
          leaves = one-row (put_two ws free a b) (suc h) free ∙ two-leaves ws start free h a b n.good_a n.good_b apart-ab two_fits;
          kept = two-kept ws start free h a b n.good_a n.good_b apart-ab two_fits;
          spent = omega arith;
          thin = λ z. refl;
        })

  module _ (some_c : c ≡ 0 → ⊥) where
    gc : Good ws start free h c
    gc = n.good_c some_c

    pub end-c : c + 3 ≤ free
    end-c = (good-bounds gc).ended

    sep-bc : Separated (2 ^ 62) (high_at_of ws a + 2) (leaves_at ws h b ++ (leaves_at ws h c ++ leaves_or ws h d))
    sep-bc = rw (or_some ws h c some_c) at (good-rest n.good_a 1 (leaves_at ws h b ++ (leaves_or ws h c ++ leaves_or ws h d)) n.sep).1

    apart-bc : high_at_of ws b + 2 ≤ low_at_of ws c
    apart-bc = good-apart n.good_b gc (high_at_of ws a + 2) (leaves_or ws h d) sep-bc

    pub three-total : total_at_of ws a + total_at_of ws b + total_at_of ws c ≤ 2 ^ 62
    three-total = omega (arith, total-parts, good-total gc, ap size (or_some ws h c some_c))

    -- three
    module _ (noD : d ≡ 0) where
      row3 : leaves_at ws h a ++ (leaves_at ws h b ++ (leaves_or ws h c ++ leaves_or ws h d)) ≡ leaves_at ws h a ++ (leaves_at ws h b ++ leaves_at ws h c)
      row3 = rw (or_some ws h c some_c, or_none ws h d noD, append-nil (leaves_at ws h c)) refl

      pub group_three : (ws' : List ℕ) (g : Grown) → ws' ≡ put_three_of ws free a b c → g ≡ record { first = free; second = 0; free = free + 8 }
          → Grows ws ws' start free (suc h) 16 d (leaves_at ws h a ++ (leaves_at ws h b ++ (leaves_or ws h c ++ leaves_or ws h d))) g
      group_three ws' g e f =
          rw (e, f, row3)
          (record {
            first = three-good ws start free h a b c n.good_a n.good_b gc apart-ab apart-bc some_c two_fits;
            second = λ z. absurd (z refl);
            leaves = one-row (put_three_of ws free a b c) (suc h) free ∙ three-leaves ws start free h a b c n.good_a n.good_b gc apart-ab apart-bc some_c two_fits;
            kept = three-kept ws start free h a b c n.good_a n.good_b gc apart-ab apart-bc some_c two_fits;
            spent = omega arith;
            thin = λ z. refl;
          })

    -- four
    module _ (someD : d ≡ 0 → ⊥) where
      gd : Good ws start free h d
      gd = n.good_d someD

      apart-cd : high_at_of ws c + 2 ≤ low_at_of ws d
      apart-cd =
          good-apart gc gd (high_at_of ws b + 2) []
          (rw (append-nil (leaves_at ws h d)) (rw (or_some ws h d someD) at (good-rest n.good_b (high_at_of ws a + 2) (leaves_at ws h c ++ leaves_or ws h d) sep-bc).1))

      k1 : Kept ws (put_two ws free a b) free (free + 8)
      k1 = two-kept ws start free h a b n.good_a n.good_b apart-ab two_fits

      module _ (ws1 : List ℕ) (e1 : ws1 ≡ put_two ws free a b) where
        pub four-total : total_at_of ws1 c + total_at_of ws1 d ≤ 2 ^ 62
        four-total =
            rw e1
            (omega (
              arith,
              total-parts,
              good-total gc,
              ap size (or_some ws h c some_c),
              good-total gd,
              ap size (or_some ws h d someD),
              k1.before (c + 2) (omega (arith, (good-bounds gc).ended)),
              k1.before (d + 2) (omega (arith, (good-bounds gd).ended)),
            ))

        pub four-room : free + 8 + 8 ≤ length ws1
        four-room = rw e1 (omega (arith, room.inside, k1.sized))

      four-fits : free + 8 + 8 ≤ length (put_two ws free a b)
      four-fits = omega (arith, room.inside, k1.sized)

      pub four-c : c + 3 ≤ free + 8
      four-c = omega (arith, (good-bounds gc).ended)

      pub four-d : d + 3 ≤ free + 8
      four-d = omega (arith, (good-bounds gd).ended)

      gc1 : Good (put_two ws free a b) start (free + 8) h c
      gc1 = good-kept ws (put_two ws free a b) start free (free + 8) k1 gc

      gd1 : Good (put_two ws free a b) start (free + 8) h d
      gd1 = good-kept ws (put_two ws free a b) start free (free + 8) k1 gd

      apart1 : high_at_of (put_two ws free a b) c + 2 ≤ low_at_of (put_two ws free a b) d
      apart1 = omega (arith, apart-cd, k1.before (c + 1) (omega (arith, (good-bounds gc).ended)), k1.before d (omega (arith, (good-bounds gd).ended)))

      k2 : Kept (put_two ws free a b) (put_two (put_two ws free a b) (free + 8) c d) (free + 8) (free + 8 + 8)
      k2 = two-kept (put_two ws free a b) start (free + 8) h c d gc1 gd1 apart1 four-fits

      row4 : leaves_at ws h a ++ (leaves_at ws h b ++ (leaves_or ws h c ++ leaves_or ws h d)) ≡ (leaves_at ws h a ++ leaves_at ws h b) ++ (leaves_at ws h c ++ leaves_at ws h d)
      row4 = rw (or_some ws h c some_c, or_some ws h d someD) (sym (append_assoc (leaves_at ws h a) (leaves_at ws h b) (leaves_at ws h c ++ leaves_at ws h d)))

      leaves4 : leaves_at (put_two (put_two ws free a b) (free + 8) c d) (suc h) free ++ leaves_or (put_two (put_two ws free a b) (free + 8) c d) (suc h) (free + 8)
          ≡ leaves_at ws h a ++ (leaves_at ws h b ++ (leaves_or ws h c ++ leaves_or ws h d))
      leaves4 =
          let e1 = leaves_kept (put_two ws free a b) (put_two (put_two ws free a b) (free + 8) c d) start (free + 8) (free + 8 + 8) k2
          (two_good ws start free h a b n.good_a n.good_b apart-ab two_fits)
          ∙ two-leaves ws start free h a b n.good_a n.good_b apart-ab two_fits in
          let e2 = or_some (put_two (put_two ws free a b) (free + 8) c d) (suc h) (free + 8) (λ z. omega arith)
          ∙ two-leaves (put_two ws free a b) start (free + 8) h c d gc1 gd1 apart1 four-fits
          ∙ ap₂ (λ (x y : List Run). x ++ y)
          (leaves_kept ws (put_two ws free a b) start free (free + 8) k1 gc)
          (leaves_kept ws (put_two ws free a b) start free (free + 8) k1 gd) in
          ap₂ (λ (x y : List Run). x ++ y) e1 e2 ∙ sym row4

      pub group_four : (ws1 ws' : List ℕ) (g : Grown) → ws1 ≡ put_two ws free a b → ws' ≡ put_two ws1 (free + 8) c d → g ≡ record
          { first = free; second = free + 8; free = free + 8 + 8 }
          → Grows ws ws' start free (suc h) 16 d (leaves_at ws h a ++ (leaves_at ws h b ++ (leaves_or ws h c ++ leaves_or ws h d))) g
      group_four ws1 ws' g e1 e f =
          rw (e, f, e1)
          (record {
            first = good-kept (put_two ws free a b) (put_two (put_two ws free a b) (free + 8) c d) start (free + 8) (free + 8 + 8) k2
                (two_good ws start free h a b n.good_a n.good_b apart-ab two_fits);
            second = λ z. two_good (put_two ws free a b) start (free + 8) h c d gc1 gd1 apart1 four-fits;
            leaves = leaves4;
            kept = kept-kept ws (put_two ws free a b) (put_two (put_two ws free a b) (free + 8) c d) free (free + 8) (free + 8 + 8) k1 k2;
            spent = omega arith;
            thin = λ z. absurd (someD z);
          })

pub ruleset group-cases = (two_fits, end-a, end-b, two-total, group_two, end-c, three-total, group_three, four-total, four-room, four-c, four-d, group_four, rules)
