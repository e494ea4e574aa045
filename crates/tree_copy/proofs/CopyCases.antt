-- Cases of `copy_at`: the copies of the children, one behind the other, then the node.
use Rattle.model.proofs.Prelude.{ℕ, ◌≤◌, ◌+◌, ◌-◌, suc, ◌^◌, ◌≡◌, ◌∙◌, sym, subst, ap₂, List, length, arith}
use Rattle.tree_words.specs.TreeLayout.{low_at_of, high_at_of, total_at_of, child1, child2, child3}
use Rattle.tree_words.specs.Nodes.{put_leaf_of, put_two, put_three_of}
use Rattle.tree_copy.specs.Copying.{CopyAsk, Copies}
use Rattle.tree_words.proofs.NodeLaws.{good-bounds}
use Rattle.tree_words.proofs.ChildLaws.{good-end8, good-up, level_up}
use Rattle.tree_copy.proofs.CopyLaws.{first-ask, second-ask, two_a, two-b, two-room, two-total, two-copied, third-ask, three-a, three-b, three-c, three-room, three-total}
use Rattle.tree_copy.proofs.CopyLaws.{three-copied, leaf_room, leaf-copied}

module _ (ws : List ℕ) (start end to h a : ℕ) (ask : CopyAsk ws start end to h a) where
  pub copy_leaf-room : h ≡ 0 → to + 3 ≤ length ws
  copy_leaf-room z = leaf_room ws start end to a (subst (λ (x : ℕ). CopyAsk ws start end to x a) z ask)

  pub copy_end : end ≤ length ws → a + 3 ≤ length ws
  copy_end q = omega (arith, (good-bounds ask.good).ended)

  pub copy_order : (l u : ℕ) → l ≡ low_at_of ws a → u ≡ high_at_of ws a → l ≤ u
  copy_order l u el eu = omega (arith, (good-bounds ask.good).order)

  pub copy_most : (u : ℕ) → u ≡ high_at_of ws a → u ≤ 2 ^ 62
  copy_most u eu = omega (arith, (good-bounds ask.good).most)

  pub copy_node : (h ≡ 0 → ⊥) → end ≤ length ws → a + 8 ≤ length ws
  copy_node ne q = omega (arith, good-end8 (good-up h ne ask.good))

  pub copy_leaf : h ≡ 0 → (l u : ℕ) → l ≡ low_at_of ws a → u ≡ high_at_of ws a → (ws' : List ℕ) → ws' ≡ put_leaf_of ws to l u → Copies ws ws' to h a to (to + 3)
  copy_leaf z l u el eu ws' e =
      let c = leaf-copied ws start end to a (subst (λ (x : ℕ). CopyAsk ws start end to x a) z ask) in
      subst (λ (x : ℕ). Copies ws ws' to x a to (to + 3)) (sym z)
      (subst (λ (w : List ℕ). Copies ws w to 0 a to (to + 3)) (sym (e ∙ ap₂ (λ (x y : ℕ). put_leaf_of ws to x y) el eu)) c)

  module _ (ne : h ≡ 0 → ⊥) where
    up : CopyAsk ws start end to (suc (h - 1)) a
    up = subst (λ (x : ℕ). CopyAsk ws start end to x a) (level_up h ne) ask

    down : (ws' : List ℕ) (at f : ℕ) → Copies ws ws' to (suc (h - 1)) a at f → Copies ws ws' to h a at f
    down ws' at f c = subst (λ (x : ℕ). Copies ws ws' to x a at f) (sym (level_up h ne)) c

    module _ (x : ℕ) (ex : x ≡ child1 ws a) where
      pub copy_first : CopyAsk ws start end to (h - 1) x
      copy_first = subst (λ (y : ℕ). CopyAsk ws start end to (h - 1) y) (sym ex) (first-ask ws start end to (h - 1) a up)

      module _ (ws1 : List ℕ) (at1 f1 : ℕ) (r1 : Copies ws ws1 to (h - 1) x at1 f1) where
        r1' : Copies ws ws1 to (h - 1) (child1 ws a) at1 f1
        r1' = subst (λ (y : ℕ). Copies ws ws1 to (h - 1) y at1 f1) ex r1

        pub copy_long1 : end ≤ length ws → end ≤ length ws1
        copy_long1 q = omega (arith, r1.kept.sized)

        module _ (y : ℕ) (ey : y ≡ child2 ws a) where
          pub copy_second : CopyAsk ws1 start end f1 (h - 1) y
          copy_second = subst (λ (z : ℕ). CopyAsk ws1 start end f1 (h - 1) z) (sym ey) (second-ask ws start end to (h - 1) a up ws1 at1 f1 r1')

          module _ (ws2 : List ℕ) (at2 f2 : ℕ) (r2 : Copies ws1 ws2 f1 (h - 1) y at2 f2) (z : ℕ) (ez : z ≡ child3 ws a) where
            r2' : Copies ws1 ws2 f1 (h - 1) (child2 ws a) at2 f2
            r2' = subst (λ (w : ℕ). Copies ws1 ws2 f1 (h - 1) w at2 f2) ey r2

            pub copy_two-a : at1 + 3 ≤ f2
            copy_two-a = two_a ws start end to (h - 1) a up ws1 at1 f1 r1' ws2 at2 f2 r2'

            pub copy_two-b : at2 + 3 ≤ f2
            copy_two-b = two-b ws start end to (h - 1) a up ws1 at1 f1 r1' ws2 at2 f2 r2'

            pub copy_long2 : end ≤ length ws → end ≤ length ws2
            copy_long2 q = omega (arith, r1.kept.sized, r2.kept.sized)

            module _ (none : z ≡ 0) where
              pub copy_two-room : f2 + 8 ≤ length ws2
              copy_two-room = two-room ws start end to (h - 1) a up ws1 at1 f1 r1' ws2 at2 f2 r2' (sym ez ∙ none)

              pub copy_two-total : total_at_of ws2 at1 + total_at_of ws2 at2 ≤ 2 ^ 62
              copy_two-total = two-total ws start end to (h - 1) a up ws1 at1 f1 r1' ws2 at2 f2 r2' (sym ez ∙ none)

              pub copy_two : (ws' : List ℕ) → ws' ≡ put_two ws2 f2 at1 at2 → Copies ws ws' to h a f2 (f2 + 8)
              copy_two ws' e =
                  subst (λ (w : List ℕ). Copies ws w to h a f2 (f2 + 8)) (sym e)
                  (down (put_two ws2 f2 at1 at2) f2 (f2 + 8) (two-copied ws start end to (h - 1) a up ws1 at1 f1 r1' ws2 at2 f2 r2' (sym ez ∙ none)))

            module _ (some : z ≡ 0 → ⊥) where
              some' : child3 ws a ≡ 0 → ⊥
              some' w = some (ez ∙ w)

              pub copy_third : CopyAsk ws2 start end f2 (h - 1) z
              copy_third = subst (λ (w : ℕ). CopyAsk ws2 start end f2 (h - 1) w) (sym ez) (third-ask ws start end to (h - 1) a up ws1 at1 f1 r1' ws2 at2 f2 r2' some')

              module _ (ws3 : List ℕ) (at3 f3 : ℕ) (r3 : Copies ws2 ws3 f2 (h - 1) z at3 f3) where
                r3' : Copies ws2 ws3 f2 (h - 1) (child3 ws a) at3 f3
                r3' = subst (λ (w : ℕ). Copies ws2 ws3 f2 (h - 1) w at3 f3) ez r3

                pub copy_three-a : at1 + 3 ≤ f3
                copy_three-a = three-a ws start end to (h - 1) a up ws1 at1 f1 r1' ws2 at2 f2 r2' some' ws3 at3 f3 r3'

                pub copy_three-b : at2 + 3 ≤ f3
                copy_three-b = three-b ws start end to (h - 1) a up ws1 at1 f1 r1' ws2 at2 f2 r2' some' ws3 at3 f3 r3'

                pub copy_three-c : at3 + 3 ≤ f3
                copy_three-c = three-c ws start end to (h - 1) a up ws1 at1 f1 r1' ws2 at2 f2 r2' some' ws3 at3 f3 r3'

                pub copy_three-room : f3 + 8 ≤ length ws3
                copy_three-room = three-room ws start end to (h - 1) a up ws1 at1 f1 r1' ws2 at2 f2 r2' some' ws3 at3 f3 r3'

                pub copy_three-total : total_at_of ws3 at1 + total_at_of ws3 at2 + total_at_of ws3 at3 ≤ 2 ^ 62
                copy_three-total = three-total ws start end to (h - 1) a up ws1 at1 f1 r1' ws2 at2 f2 r2' some' ws3 at3 f3 r3'

                pub copy_three : (ws' : List ℕ) → ws' ≡ put_three_of ws3 f3 at1 at2 at3 → Copies ws ws' to h a f3 (f3 + 8)
                copy_three ws' e =
                    subst (λ (w : List ℕ). Copies ws w to h a f3 (f3 + 8)) (sym e)
                    (down (put_three_of ws3 f3 at1 at2 at3) f3 (f3 + 8) (three-copied ws start end to (h - 1) a up ws1 at1 f1 r1' ws2 at2 f2 r2' some' ws3 at3 f3 r3'))
