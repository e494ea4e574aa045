-- Cases of `count_at`.
use Rattle.model.proofs.Prelude.{ℕ, ◌≤◌, ◌+◌, ◌-◌, suc, ◌≡◌, ◌∙◌, ap, sym, ap₂, List, ◌++◌, length, length-append, arith}
use mir.Val.{Fits}
use mir.Syntax.{w64}
use Rattle.tree_words.specs.TreeLayout.{child1, child2, child3, leaves_at}
use Rattle.tree_words.specs.Nodes.{Good}
use Rattle.tree_words.proofs.NodeLaws.{leaves-leaf, leaves-two, leaves-three}
use Rattle.tree_words.proofs.ChildLaws.{good-1, good-2, good-3, level_up, good-up, few-ten}

module _ (ws : List ℕ) (start free h a : ℕ) (g : Good ws start free h a) where
  pub count-leaf : h ≡ 0 → 1 ≡ length (leaves_at ws h a)
  count-leaf z = sym (ap (λ (x : ℕ). length (leaves_at ws x a)) z ∙ ap length (leaves-leaf ws a))

  module _ (ne : h ≡ 0 → ⊥) where
    pub count-first : (x : ℕ) → x ≡ child1 ws a → Good ws start free (h - 1) x
    count-first x e = rw e (good-1 (good-up h ne g))

    pub count-second : (x : ℕ) → x ≡ child2 ws a → Good ws start free (h - 1) x
    count-second x e = rw e (good-2 (good-up h ne g))

    pub count-third : (x : ℕ) → x ≡ child3 ws a → (x ≡ 0 → ⊥) → Good ws start free (h - 1) x
    count-third x e z = rw e (good-3 (good-up h ne g) (λ y. z (e ∙ y)))

    whole : leaves_at ws h a ≡ leaves_at ws (suc (h - 1)) a
    whole = ap (λ (x : ℕ). leaves_at ws x a) (level_up h ne)

    module _ (x y z p q : ℕ) (ex : x ≡ child1 ws a) (ey : y ≡ child2 ws a) (ez : z ≡ child3 ws a) (ep : p ≡ length (leaves_at ws (h - 1) x)) (eq : q ≡ length (leaves_at ws (h - 1) y))
      where
        pub count_fits : h ≤ 10 → Fits w64 (p + q)
        count_fits s = record { fits = omega (arith, few-ten (omega arith) (count-first x ex), few-ten (omega arith) (count-second y ey)) }

        both : p + q ≡ length (leaves_at ws (h - 1) (child1 ws a)) + length (leaves_at ws (h - 1) (child2 ws a))
        both = ap₂ (λ (m n : ℕ). m + n) (ep ∙ ap (λ (m : ℕ). length (leaves_at ws (h - 1) m)) ex) (eq ∙ ap (λ (m : ℕ). length (leaves_at ws (h - 1) m)) ey)

        pub count-two : z ≡ 0 → p + q ≡ length (leaves_at ws h a)
        count-two n =
            both
            ∙ sym (ap length (whole ∙ leaves-two ws (h - 1) a (sym ez ∙ n)) ∙ length-append (leaves_at ws (h - 1) (child1 ws a)) (leaves_at ws (h - 1) (child2 ws a)))

        module _ (some : z ≡ 0 → ⊥) (r : ℕ) (er : r ≡ length (leaves_at ws (h - 1) z)) where
          pub count-fits3 : h ≤ 10 → Fits w64 (p + q + r)
          count-fits3 s = record { fits = omega (arith, few-ten (omega arith) (count-first x ex), few-ten (omega arith) (count-second y ey), few-ten (omega arith) (count-third z ez some)) }

          pub count-three : p + q + r ≡ length (leaves_at ws h a)
          count-three =
              let e1 = ap length (whole ∙ leaves-three ws (h - 1) a (λ n. some (ez ∙ n))) in
              let e2 = length-append (leaves_at ws (h - 1) (child1 ws a)) (leaves_at ws (h - 1) (child2 ws a) ++ leaves_at ws (h - 1) (child3 ws a)) in
              let e3 = length-append (leaves_at ws (h - 1) (child2 ws a)) (leaves_at ws (h - 1) (child3 ws a)) in
              let e4 = er ∙ ap (λ (m : ℕ). length (leaves_at ws (h - 1) m)) ez in
              omega (arith, e1, e2, e3, e4, both)
