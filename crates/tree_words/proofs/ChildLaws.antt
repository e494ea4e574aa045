-- The children of a sound inner node, and the leaves of a tree by its height.
use Rattle.model.proofs.Prelude.{ℕ, ◌≤◌, ◌<◌, ◌+◌, ◌-◌, ◌*◌, suc, ◌^◌, zero, ◌≡◌, ◌∙◌, ap, refl, sym, subst, ⊎_elim, List, [], ◌++◌, length}
use Rattle.model.proofs.Prelude.{length-append, pow-suc, arith, ne_eqb, eq-eqb}
use native.Mathlib.Nat.{pow-zero}
use Rattle.model.proofs.BoolLaws.{le_or_lt}
use Rattle.tree_words.specs.TreeLayout.{child1, child2, child3, leaves_at, leaves_of}
use Rattle.tree_words.specs.Nodes.{Good, good-leaf, good-two, good-three, Whole, last_child_of}
use Rattle.tree_words.proofs.NodeLaws.{leaves-two, leaves-three, leaves-leaf}

-- ---- children of a sound inner node

module _ {ws : List ℕ} {start free h a : ℕ} where
  pub good-end8 : Good ws start free (suc h) a → a + 8 ≤ free
  good-end8 (good-two t b c) = t.ended
  good-end8 (good-three t b c d) = t.ended

  pub good-1 : Good ws start free (suc h) a → Good ws start free h (child1 ws a)
  good-1 (good-two t b c) = b
  good-1 (good-three t b c d) = b

  pub good-2 : Good ws start free (suc h) a → Good ws start free h (child2 ws a)
  good-2 (good-two t b c) = c
  good-2 (good-three t b c d) = c

  pub good-3 : Good ws start free (suc h) a → (child3 ws a ≡ 0 → ⊥) → Good ws start free h (child3 ws a)
  good-3 (good-two t b c) some = absurd (some t.no_third)
  good-3 (good-three t b c d) some = d

module _ (ws : List ℕ) (h a : ℕ) where
  pub last-two : child3 ws a ≡ 0 → last_child_of ws a ≡ child2 ws a
  unfolding last_child_of
  last-two e = rw (eq-eqb (child3 ws a) 0 e, last_child_of) refl

  pub last-three : (child3 ws a ≡ 0 → ⊥) → last_child_of ws a ≡ child3 ws a
  unfolding last_child_of
  last-three e = rw (ne_eqb (child3 ws a) 0 e, last_child_of) refl

  pub last-is-second : (x y : ℕ) → x ≡ child3 ws a → x ≡ 0 → y ≡ child2 ws a → y ≡ last_child_of ws a
  last-is-second x y e z f = f ∙ sym (last-two (sym e ∙ z))

  pub last-is-third : (x : ℕ) → x ≡ child3 ws a → (x ≡ 0 → ⊥) → x ≡ last_child_of ws a
  last-is-third x e z = e ∙ sym (last-three (λ q. z (e ∙ q)))

module _ {ws : List ℕ} {start free h a : ℕ} where
  pub good-last : Good ws start free (suc h) a → Good ws start free h (last_child_of ws a)
  good-last (good-two t b c) = rw (last-two ws h a t.no_third) c
  good-last (good-three t b c d) = rw (last-three ws h a t.some_third) d

abbrev three : ℕ → ℕ
three zero = 1
three (suc h) = 3 * three h

three_up : (k h n : ℕ) → n ≡ k + h → three h ≤ three n
three_up zero h n e = let f : n ≡ h = omega arith in rw f (omega arith)
three_up (suc k) h n e = let ih : 3 * three h ≤ three n = three_up k (suc h) n (omega arith) in omega (arith, ih)

module _ {ws : List ℕ} {start free : ℕ} where
  few : {h a : ℕ} → Good ws start free h a → length (leaves_at ws h a) ≤ three h
  few {a = a} (good-leaf t) = rw (leaves-leaf ws a) (omega arith)
  few {h = suc h} {a = a} (good-two t b c) =
      rw (leaves-two ws h a t.no_third, length-append (leaves_at ws h (child1 ws a)) (leaves_at ws h (child2 ws a))) (omega (arith, few b, few c))
  few {h = suc h} {a = a} (good-three t b c d) =
      rw (
        leaves-three ws h a t.some_third,
        length-append (leaves_at ws h (child1 ws a)) (leaves_at ws h (child2 ws a) ++ leaves_at ws h (child3 ws a)),
        length-append (leaves_at ws h (child2 ws a))
            (leaves_at ws h (child3 ws a)),
      )
      (omega (arith, few b, few c, few d))

  -- a tree with as many levels has at least this many leaves
  pub many : {h a : ℕ} → Good ws start free h a → 2 ^ h ≤ length (leaves_at ws h a)
  many {a = a} (good-leaf t) = rw (leaves-leaf ws a) (omega (arith, pow-zero 2))
  many {h = suc h} {a = a} (good-two t b c) =
      rw (leaves-two ws h a t.no_third, length-append (leaves_at ws h (child1 ws a)) (leaves_at ws h (child2 ws a))) (omega (arith, pow-suc 2 h, many b, many c))
  many {h = suc h} {a = a} (good-three t b c d) =
      rw (
        leaves-three ws h a t.some_third,
        length-append (leaves_at ws h (child1 ws a)) (leaves_at ws h (child2 ws a) ++ leaves_at ws h (child3 ws a)),
        length-append (leaves_at ws h (child2 ws a))
            (leaves_at ws h (child3 ws a)),
      )
      (omega (arith, pow-suc 2 h, many b, many c, many d))

  pub few-ten : {h a : ℕ} → h ≤ 10 → Good ws start free h a → length (leaves_at ws h a) ≤ 59049
  few-ten {h} {a} q g = omega (arith, few g, three_up (10 - h) h 10 (omega arith))

pub level_up : (h : ℕ) → (h ≡ 0 → ⊥) → h ≡ suc (h - 1)
level_up h ne = ⊎_elim (λ (q : h ≤ 0). absurd (ne (omega arith))) (λ (q : 0 < h). omega arith) (le_or_lt h 0)

pub some-height : (h : ℕ) → (h ≡ 0 → ⊥) → 1 ≤ h
some-height h ne = omega (arith, level_up h ne)

pub height_less : (h : ℕ) → (h ≡ 0 → ⊥) → (t : ℕ) → h ≡ t → h - 1 < t
height_less h ne t e = omega (arith, level_up h ne)

pub good-up : {ws : List ℕ} {start free a : ℕ} (h : ℕ) → (h ≡ 0 → ⊥) → Good ws start free h a → Good ws start free (suc (h - 1)) a
good-up {ws} {start} {free} {a} h ne g = subst (λ (x : ℕ). Good ws start free x a) (level_up h ne) g

pub node-ends : (ws : List ℕ) (start free h a : ℕ) → Good ws start free h a → (h ≡ 0 → ⊥) → (n : ℕ) → free ≤ n → a + 8 ≤ n
node-ends ws start free h a g ne n q = omega (arith, good-end8 (good-up h ne g))

-- ---- a tree by its levels

module _ (ws : List ℕ) (start free : ℕ) where
  pub whole-good : (l a : ℕ) → (l ≡ 0 → ⊥) → Whole ws start free l a → Good ws start free (l - 1) a
  whole-good zero a ne w = absurd (ne refl)
  whole-good (suc h) a ne w = let e : suc h - 1 ≡ h = omega arith in subst (λ (x : ℕ). Good ws start free x a) (sym e) w

  pub good-whole : (l h a : ℕ) → l ≡ suc h → Good ws start free h a → Whole ws start free l a
  good-whole l h a e g = subst (λ (x : ℕ). Whole ws start free x a) (sym e) g

pub of_some : (ws : List ℕ) (l a : ℕ) → (l ≡ 0 → ⊥) → leaves_of ws l a ≡ leaves_at ws (l - 1) a
of_some ws l a ne = ap (λ (x : ℕ). leaves_of ws x a) (level_up l ne)

pub of_suc : (ws : List ℕ) (l h a : ℕ) → l ≡ suc h → leaves_of ws l a ≡ leaves_at ws h a
of_suc ws l h a e = ap (λ (x : ℕ). leaves_of ws x a) e

pub of_none : (ws : List ℕ) (l a : ℕ) → l ≡ 0 → leaves_of ws l a ≡ []
of_none ws l a e = ap (λ (x : ℕ). leaves_of ws x a) e
