-- The copy of a node from the copies of its children, and of a leaf.
use Rattle.model.proofs.Prelude.{ℕ, ◌≤◌, ◌<◌, ◌+◌, ◌*◌, suc, ◌^◌, zero, ◌≡◌, ◌∙◌, ap, refl, sym, subst, ap₂, ⊎_elim, inl, inr, ◌⊎◌, List, [], ◌++◌}
use Rattle.model.proofs.Prelude.{append-nil, length, get_or, length-append, arith}
use Rattle.model.specs.Runs.{Run}
use Rattle.run_lists.proofs.MemberLaws.{size-le}
use Rattle.tree_words.specs.TreeLayout.{low_at_of, high_at_of, total_at_of, child1, child2, child3, leaves_at}
use Rattle.tree_words.specs.Nodes.{Good, good-leaf, good-two, good-three, Sep, Kept, put_leaf_of, put_two, put_three_of}
use Rattle.tree_copy.specs.Copying.{CopyAsk, Copies}
use Rattle.tree_words.proofs.NodeLaws.{good-bounds, good-same, leaves-same, good-kept, leaves_kept, kept-kept, leaves-leaf, leaves-two, leaves-three}
use Rattle.tree_words.proofs.SepLaws.{size-append, sep-right, good-apart, good-total}
use Rattle.tree_words.proofs.KeepLaws.{good-sep}
use Rattle.tree_words.proofs.NodePutLaws.{leaf-kept}
use Rattle.tree_words.proofs.MakeLaws.{two-kept, two_good, two-leaves, three-kept, three-good, three-leaves, leaf-good, leaf-leaves}
use Rattle.tree_words.proofs.ChildLaws.{good-1, good-2, good-3}

-- nodes of fewer words are nodes of more
good-earlier : {ws : List ℕ} {start free h a : ℕ} (start' : ℕ) → start' ≤ start → Good ws start free h a → Good ws start' free h a
good-earlier {a = a} start' q (good-leaf t) =
    good-leaf {a = a} (record { begun = omega (arith, t.begun); ended = t.ended; least = t.least; order = t.order; most = t.most; counted = t.counted })
good-earlier {h = suc h} {a = a} start' q (good-two t b c) =
    good-two {h = h} {a = a}
    (record { begun = omega (arith, t.begun); ended = t.ended; no_third = t.no_third; low = t.low; high = t.high; second = t.second; third = t.third; apart = t.apart; counted = t.counted })
    (good-earlier start' q b)
    (good-earlier start' q c)
good-earlier {h = suc h} {a = a} start' q (good-three t b c d) =
    good-three {h = h} {a = a}
    (record {
      begun = omega (arith, t.begun);
      ended = t.ended;
      some_third = t.some_third;
      low = t.low;
      high = t.high;
      second = t.second;
      third = t.third;
      apart = t.apart;
      apart2 = t.apart2;
      counted = t.counted;
    })
    (good-earlier start' q b)
    (good-earlier start' q c)
    (good-earlier start' q d)

-- ---- what is copied is not written to

module _ (ws ws1 : List ℕ) (start end to f n : ℕ) (apart : (end ≤ to) ⊎ (to + n ≤ start)) (k : Kept ws ws1 to f) (q : f ≤ to + n) where
  untouched : (i : ℕ) → start ≤ i → i < end → get_or ws1 i 0 ≡ get_or ws i 0
  untouched i a b = ⊎_elim (λ (p : end ≤ to). k.before i (omega arith)) (λ (p : to + n ≤ start). k.behind i (omega arith)) apart

-- a part of what is copied, when `g` words from `to` on are written
ask-part : (start end to all f m : ℕ) → (end ≤ to) ⊎ (to + all ≤ start) → to ≤ f → f + m ≤ to + all → (end ≤ f) ⊎ (f + m ≤ start)
ask-part start end to all f m (inl p) q r = inl (omega arith)
ask-part start end to all f m (inr p) q r = inr (omega arith)

module _ (ws : List ℕ) (start end to h a : ℕ) (ask : CopyAsk ws start end to (suc h) a) where
  g1 : Good ws start end h (child1 ws a)
  g1 = good-1 ask.good

  g2 : Good ws start end h (child2 ws a)
  g2 = good-2 ask.good

  abbrev n1 : ℕ
  n1 = length (leaves_at ws h (child1 ws a))

  abbrev n2 : ℕ
  n2 = length (leaves_at ws h (child2 ws a))

  abbrev n3 : ℕ
  n3 = length (leaves_at ws h (child3 ws a))

  abbrev all : ℕ
  all = length (leaves_at ws (suc h) a)

  whole : Sep (leaves_at ws (suc h) a)
  whole = good-sep ask.good

  module _ (none : child3 ws a ≡ 0) where
    sum2 : all ≡ n1 + n2
    sum2 = ap length (leaves-two ws h a none) ∙ length-append (leaves_at ws h (child1 ws a)) (leaves_at ws h (child2 ws a))

  module _ (some : child3 ws a ≡ 0 → ⊥) where
    g3 : Good ws start end h (child3 ws a)
    g3 = good-3 ask.good some

    sum3 : all ≡ n1 + (n2 + n3)
    sum3 =
        ap length (leaves-three ws h a some) ∙ length-append (leaves_at ws h (child1 ws a)) (leaves_at ws h (child2 ws a) ++ leaves_at ws h (child3 ws a))
        ∙ ap (λ (x : ℕ). n1 + x) (length-append (leaves_at ws h (child2 ws a)) (leaves_at ws h (child3 ws a)))

  two-le : n1 + n2 ≤ all
  two-le = zero_or (child3 ws a) refl
    where
      zero_or : (c : ℕ) → child3 ws a ≡ c → n1 + n2 ≤ all
      zero_or zero e = omega (arith, sum2 e)
      zero_or (suc c) e = omega (arith, sum3 (λ z. omega arith))

  pub first-ask : CopyAsk ws start end to h (child1 ws a)
  first-ask = record {
    headed = ask.headed;
    good = g1;
    apart = ask-part start end to (11 * all) to (11 * n1) ask.apart (omega arith) (omega (arith, two-le));
    inside = omega (arith, ask.inside, two-le);
  }

  module _ (ws1 : List ℕ) (at1 f1 : ℕ) (r1 : Copies ws ws1 to h (child1 ws a) at1 f1) where
    same1 : (i : ℕ) → start ≤ i → i < end → get_or ws1 i 0 ≡ get_or ws i 0
    same1 = untouched ws ws1 start end to f1 (11 * all) ask.apart r1.kept (omega (arith, r1.spent, two-le))

    leaves1 : leaves_at ws1 h (child2 ws a) ≡ leaves_at ws h (child2 ws a)
    leaves1 = leaves-same ws ws1 start end same1 g2

    len1 : length (leaves_at ws1 h (child2 ws a)) ≡ n2
    len1 = ap length leaves1

    pub second-ask : CopyAsk ws1 start end f1 h (child2 ws a)
    second-ask = record {
      headed = omega (arith, ask.headed, r1.kept.grown);
      good = good-same ws ws1 start end same1 g2;
      apart = ask-part start end to (11 * all) f1 (11 * length (leaves_at ws1 h (child2 ws a))) ask.apart r1.kept.grown (omega (arith, r1.spent, two-le, len1));
      inside = omega (arith, ask.inside, r1.spent, r1.kept.sized, two-le, len1);
    }

    module _ (ws2 : List ℕ) (at2 f2 : ℕ) (r2 : Copies ws1 ws2 f1 h (child2 ws a) at2 f2) where
      kept2 : Kept ws ws2 to f2
      kept2 = kept-kept ws ws1 ws2 to f1 f2 r1.kept r2.kept

      spent2 : f2 + 16 ≤ to + 11 * (n1 + n2)
      spent2 = omega (arith, r1.spent, r2.spent, len1)

      good1 : Good ws2 to f2 h at1
      good1 = good-kept ws1 ws2 to f1 f2 r2.kept r1.good

      rows1 : leaves_at ws2 h at1 ≡ leaves_at ws h (child1 ws a)
      rows1 = leaves_kept ws1 ws2 to f1 f2 r2.kept r1.good ∙ r1.leaves

      good2 : Good ws2 to f2 h at2
      good2 = good-earlier to r1.kept.grown r2.good

      rows2 : leaves_at ws2 h at2 ≡ leaves_at ws h (child2 ws a)
      rows2 = r2.leaves ∙ leaves1

      pub two_a : at1 + 3 ≤ f2
      two_a = (good-bounds good1).ended

      pub two-b : at2 + 3 ≤ f2
      two-b = (good-bounds good2).ended

      module _ (none : child3 ws a ≡ 0) where
        pair : leaves_at ws2 h at1 ++ leaves_at ws2 h at2 ≡ leaves_at ws (suc h) a
        pair = ap₂ (λ (x y : List Run). x ++ y) rows1 rows2 ∙ sym (leaves-two ws h a none)

        sep2 : Sep (leaves_at ws2 h at1 ++ leaves_at ws2 h at2)
        sep2 = subst (λ (x : List Run). Sep x) (sym pair) whole

        apart2 : high_at_of ws2 at1 + 2 ≤ low_at_of ws2 at2
        apart2 = good-apart good1 good2 1 [] (subst (λ (x : List Run). Sep (leaves_at ws2 h at1 ++ x)) (sym (append-nil (leaves_at ws2 h at2))) sep2)

        pub two-room : f2 + 8 ≤ length ws2
        two-room = omega (arith, spent2, ask.inside, sum2 none, kept2.sized)

        pub two-total : total_at_of ws2 at1 + total_at_of ws2 at2 ≤ 2 ^ 62
        two-total = omega (arith, size-le 1 (2 ^ 62) (leaves_at ws2 h at1 ++ leaves_at ws2 h at2) sep2, size-append (leaves_at ws2 h at1) (leaves_at ws2 h at2), good-total good1, good-total good2)

        pub two-copied : Copies ws (put_two ws2 f2 at1 at2) to (suc h) a f2 (f2 + 8)
        two-copied = record {
          good = two_good ws2 to f2 h at1 at2 good1 good2 apart2 two-room;
          leaves = two-leaves ws2 to f2 h at1 at2 good1 good2 apart2 two-room ∙ pair;
          spent = omega (arith, spent2, sum2 none);
          kept = kept-kept ws ws2 (put_two ws2 f2 at1 at2) to f2 (f2 + 8) kept2 (two-kept ws2 to f2 h at1 at2 good1 good2 apart2 two-room);
        }

      module _ (some : child3 ws a ≡ 0 → ⊥) where
        same2 : (i : ℕ) → start ≤ i → i < end → get_or ws2 i 0 ≡ get_or ws i 0
        same2 = untouched ws ws2 start end to f2 (11 * all) ask.apart kept2 (omega (arith, spent2, two-le))

        leaves2 : leaves_at ws2 h (child3 ws a) ≡ leaves_at ws h (child3 ws a)
        leaves2 = leaves-same ws ws2 start end same2 (g3 some)

        len2 : length (leaves_at ws2 h (child3 ws a)) ≡ n3
        len2 = ap length leaves2

        pub third-ask : CopyAsk ws2 start end f2 h (child3 ws a)
        third-ask = record {
          headed = omega (arith, ask.headed, kept2.grown);
          good = good-same ws ws2 start end same2 (g3 some);
          apart = ask-part start end to (11 * all) f2 (11 * length (leaves_at ws2 h (child3 ws a))) ask.apart kept2.grown (omega (arith, spent2, sum3 some, len2));
          inside = omega (arith, ask.inside, spent2, kept2.sized, sum3 some, len2);
        }

        module _ (ws3 : List ℕ) (at3 f3 : ℕ) (r3 : Copies ws2 ws3 f2 h (child3 ws a) at3 f3) where
          kept3 : Kept ws ws3 to f3
          kept3 = kept-kept ws ws2 ws3 to f2 f3 kept2 r3.kept

          spent3 : f3 + 24 ≤ to + 11 * (n1 + (n2 + n3))
          spent3 = omega (arith, spent2, r3.spent, len2)

          last1 : Good ws3 to f3 h at1
          last1 = good-kept ws2 ws3 to f2 f3 r3.kept good1

          last2 : Good ws3 to f3 h at2
          last2 = good-kept ws2 ws3 to f2 f3 r3.kept good2

          last3 : Good ws3 to f3 h at3
          last3 = good-earlier to kept2.grown r3.good

          triple : leaves_at ws3 h at1 ++ (leaves_at ws3 h at2 ++ leaves_at ws3 h at3) ≡ leaves_at ws (suc h) a
          triple =
              ap₂ (λ (x y : List Run). x ++ y) (leaves_kept ws2 ws3 to f2 f3 r3.kept good1 ∙ rows1)
              (ap₂ (λ (x y : List Run). x ++ y) (leaves_kept ws2 ws3 to f2 f3 r3.kept good2 ∙ rows2) (r3.leaves ∙ leaves2))
              ∙ sym (leaves-three ws h a some)

          sep3 : Sep (leaves_at ws3 h at1 ++ (leaves_at ws3 h at2 ++ leaves_at ws3 h at3))
          sep3 = subst (λ (x : List Run). Sep x) (sym triple) whole

          apart12 : high_at_of ws3 at1 + 2 ≤ low_at_of ws3 at2
          apart12 = good-apart last1 last2 1 (leaves_at ws3 h at3) sep3

          apart23 : high_at_of ws3 at2 + 2 ≤ low_at_of ws3 at3
          apart23 =
              good-apart last2 last3 1 []
              (subst (λ (x : List Run). Sep (leaves_at ws3 h at2 ++ x)) (sym (append-nil (leaves_at ws3 h at3)))
              (sep-right (2 ^ 62) 1 (leaves_at ws3 h at1) (leaves_at ws3 h at2 ++ leaves_at ws3 h at3) (omega arith) sep3))

          pub three-a : at1 + 3 ≤ f3
          three-a = (good-bounds last1).ended

          pub three-b : at2 + 3 ≤ f3
          three-b = (good-bounds last2).ended

          pub three-c : at3 + 3 ≤ f3
          three-c = (good-bounds last3).ended

          pub three-room : f3 + 8 ≤ length ws3
          three-room = omega (arith, spent3, ask.inside, sum3 some, kept3.sized)

          pub three-total : total_at_of ws3 at1 + total_at_of ws3 at2 + total_at_of ws3 at3 ≤ 2 ^ 62
          three-total =
              omega (
                arith,
                size-le 1 (2 ^ 62) (leaves_at ws3 h at1 ++ (leaves_at ws3 h at2 ++ leaves_at ws3 h at3)) sep3,
                size-append (leaves_at ws3 h at1)
                    (leaves_at ws3 h at2 ++ leaves_at ws3 h at3),
                size-append (leaves_at ws3 h at2) (leaves_at ws3 h at3),
                good-total last1,
                good-total last2,
                good-total last3,
              )

          third-some : at3 ≡ 0 → ⊥
          third-some z = omega (arith, ask.headed, (good-bounds last3).begun)

          pub three-copied : Copies ws (put_three_of ws3 f3 at1 at2 at3) to (suc h) a f3 (f3 + 8)
          three-copied = record {
            good = three-good ws3 to f3 h at1 at2 at3 last1 last2 last3 apart12 apart23 third-some three-room;
            leaves = three-leaves ws3 to f3 h at1 at2 at3 last1 last2 last3 apart12 apart23 third-some three-room ∙ triple;
            spent = omega (arith, spent3, sum3 some);
            kept = kept-kept ws ws3 (put_three_of ws3 f3 at1 at2 at3) to f3 (f3 + 8) kept3 (three-kept ws3 to f3 h at1 at2 at3 last1 last2 last3 apart12 apart23 third-some three-room);
          }

-- ---- a leaf

module _ (ws : List ℕ) (start end to a : ℕ) (ask : CopyAsk ws start end to 0 a) where
  one : length (leaves_at ws 0 a) ≡ 1
  one = ap length (leaves-leaf ws a)

  pub leaf_room : to + 3 ≤ length ws
  leaf_room = omega (arith, ask.inside, one)

  pub leaf-copied : Copies ws (put_leaf_of ws to (low_at_of ws a) (high_at_of ws a)) to 0 a to (to + 3)
  leaf-copied =
      let b = good-bounds ask.good in
      record {
        good = leaf-good ws to to (low_at_of ws a) (high_at_of ws a) (omega arith) b.least b.order b.most leaf_room;
        leaves = leaf-leaves ws to to (low_at_of ws a) (high_at_of ws a) (omega arith) b.least b.order b.most leaf_room ∙ sym (leaves-leaf ws a);
        spent = omega (arith, one);
        kept = leaf-kept ws to (low_at_of ws a) (high_at_of ws a);
      }
