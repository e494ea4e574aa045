-- Cases of the tests of one node: each test of the code is one test of the definition, in the same order.
use Rattle.model.proofs.Prelude.{ℕ, ◌≤◌, ◌<◌, ◌+◌, ◌-◌, suc, ◌^◌, ◌≡◌, ◌∙◌, ap, refl, sym, ⊎_elim, true, Bool, false, ◌&&◌, not, List, leb, eqb}
use Rattle.model.proofs.Prelude.{arith, le-leb, lt-leb, ne_eqb, eq-eqb, not-true, not-false, leb-true}
use borrow.Author.Tests.{eqb-true}
use Rattle.model.proofs.BoolLaws.{le_or_lt, and_parts}
use Rattle.tree_words.specs.TreeLayout.{low_at_of, high_at_of, total_at_of, second_at_of, third_at, in_space, leaf_true_of, two_sound_of, three_sound_of}

-- tests that say the same
pub same_test : (x y : Bool) → (x ≡ true → y ≡ true) → (y ≡ true → x ≡ true) → x ≡ y
same_test true y f g = sym (f refl)
same_test false true f g = g refl
same_test false false f g = refl

module _ (start free at n : ℕ) where
  pub inside-before : at < start → false ≡ in_space start free at n
  unfolding in_space
  inside-before q = rw (lt-leb start at q, in_space) refl

  pub inside-behind : start ≤ at → free < at → false ≡ in_space start free at n
  unfolding in_space
  inside-behind p q = let w : free < at + n = omega arith in rw (le-leb start at p, lt-leb (at + n) free w, in_space) refl

  pub inside-fits : start ≤ at → at ≤ free → leb n (free - at) ≡ in_space start free at n
  unfolding in_space
  inside-fits p q =
      rw (le-leb start at p, in_space)
      (same_test (leb n (free - at)) (leb (at + n) free)
      (λ e. le-leb (at + n) free (omega (arith, leb-true n (free - at) e)))
      (λ e. le-leb n (free - at) (omega (arith, leb-true (at + n) free e))))

  pub inside-true : in_space start free at n ≡ true → (start ≤ at) × (at + n ≤ free)
  unfolding in_space
  inside-true e =
      ⊎_elim
      (λ (p : start ≤ at).
      ⊎_elim (λ (q : at + n ≤ free). (p, q))
      (λ (q : free < at + n). let w : ◌≡◌ {A = Bool} false true = (rw (le-leb start at p, lt-leb (at + n) free q, in_space) at e) in absurd (mathlib.Core.Bool.false≢true w))
      (le_or_lt (at + n) free))
      (λ (p : at < start). let w : ◌≡◌ {A = Bool} false true = (rw (lt-leb start at p, in_space) at e) in absurd (mathlib.Core.Bool.false≢true w))
      (le_or_lt start at)

pub apart_fits : (high low : ℕ) → high ≤ low → leb 2 (low - high) ≡ leb (high + 2) low
apart_fits high low p =
    same_test (leb 2 (low - high)) (leb (high + 2) low)
    (λ e. le-leb (high + 2) low (omega (arith, leb-true 2 (low - high) e)))
    (λ e. le-leb 2 (low - high) (omega (arith, leb-true (high + 2) low e)))

pub apart-not : (high low : ℕ) → low < high → false ≡ leb (high + 2) low
apart-not high low p = sym (lt-leb (high + 2) low (omega arith))

pub sum_fits : (t a b : ℕ) → a ≤ t → eqb (t - a) b ≡ eqb t (a + b)
sum_fits t a b p =
    same_test (eqb (t - a) b) (eqb t (a + b))
    (λ e. eq-eqb t (a + b) (omega (arith, eqb-true (t - a) b e)))
    (λ e. eq-eqb (t - a) b (omega (arith, eqb-true t (a + b) e)))

pub sum-not : (t a b : ℕ) → t < a → false ≡ eqb t (a + b)
sum-not t a b p = sym (ne_eqb t (a + b) (λ e. omega arith))

pub sum3-fits : (t a b c : ℕ) (r : Bool) → a ≤ t → r ≡ eqb (t - a) (b + c) → r ≡ eqb t (a + b + c)
sum3-fits t a b c r p e = e ∙ sum_fits t a (b + c) p ∙ ap (eqb t) (omega arith)

pub sum3-not : (t a b c : ℕ) → t < a → false ≡ eqb t (a + b + c)
sum3-not t a b c p = sym (ne_eqb t (a + b + c) (λ e. omega arith))

module _ (ws : List ℕ) (a : ℕ) where
  pub leaf-no0 : (q : low_at_of ws a < 1) → false ≡ leaf_true_of ws a
  unfolding leaf_true_of
  leaf-no0 q =
      let w0 : leb (1) (low_at_of ws a) ≡ false = lt-leb (1) (low_at_of ws a) q in
      rw (w0, leaf_true_of) refl

  pub leaf-no1 : (p0 : 1 ≤ low_at_of ws a) (q : high_at_of ws a < low_at_of ws a) → false ≡ leaf_true_of ws a
  unfolding leaf_true_of
  leaf-no1 p0 q =
      let w0 : leb (1) (low_at_of ws a) ≡ true = le-leb (1) (low_at_of ws a) p0 in
      let w1 : leb (low_at_of ws a) (high_at_of ws a) ≡ false = lt-leb (low_at_of ws a) (high_at_of ws a) q in
      rw (w0, w1, leaf_true_of) refl

  pub leaf-no2 : (p0 : 1 ≤ low_at_of ws a) (p1 : low_at_of ws a ≤ high_at_of ws a) (q : 2 ^ 62 < high_at_of ws a) → false ≡ leaf_true_of ws a
  unfolding leaf_true_of
  leaf-no2 p0 p1 q =
      let w0 : leb (1) (low_at_of ws a) ≡ true = le-leb (1) (low_at_of ws a) p0 in
      let w1 : leb (low_at_of ws a) (high_at_of ws a) ≡ true = le-leb (low_at_of ws a) (high_at_of ws a) p1 in
      let w2 : leb (high_at_of ws a) (2 ^ 62) ≡ false = lt-leb (high_at_of ws a) (2 ^ 62) q in
      rw (w0, w1, w2, leaf_true_of) refl

  pub leaf_last : (p0 : 1 ≤ low_at_of ws a) (p1 : low_at_of ws a ≤ high_at_of ws a) (p2 : high_at_of ws a ≤ 2 ^ 62) (r : Bool) → r
      ≡ eqb (total_at_of ws a) (suc (high_at_of ws a) - low_at_of ws a) → r ≡
      leaf_true_of ws a
  unfolding leaf_true_of
  leaf_last p0 p1 p2 r e =
      let w0 : leb (1) (low_at_of ws a) ≡ true = le-leb (1) (low_at_of ws a) p0 in
      let w1 : leb (low_at_of ws a) (high_at_of ws a) ≡ true = le-leb (low_at_of ws a) (high_at_of ws a) p1 in
      let w2 : leb (high_at_of ws a) (2 ^ 62) ≡ true = le-leb (high_at_of ws a) (2 ^ 62) p2 in
      rw (w0, w1, w2, leaf_true_of) e

  pub leaf-true : leaf_true_of ws a ≡ true → (leb (1) (low_at_of ws a) ≡ true) × (leb (low_at_of ws a) (high_at_of ws a) ≡ true) × (leb (high_at_of ws a) (2 ^ 62) ≡ true) ×
      (eqb (total_at_of ws a) (suc (high_at_of ws a) - low_at_of ws a) ≡ true)
  unfolding leaf_true_of
  leaf-true e =
      let s4 = and_parts ((leb (1) (low_at_of ws a)) && (leb (low_at_of ws a) (high_at_of ws a))
      && (leb (high_at_of ws a) (2 ^ 62))) (eqb (total_at_of ws a) (suc (high_at_of ws a) - low_at_of ws a)) e in
      let s3 = and_parts ((leb (1) (low_at_of ws a)) && (leb (low_at_of ws a) (high_at_of ws a))) (leb (high_at_of ws a) (2 ^ 62)) s4.0 in
      let s2 = and_parts ((leb (1) (low_at_of ws a))) (leb (low_at_of ws a) (high_at_of ws a)) s3.0 in
      (s2.0, s2.1, s3.1, s4.1)

  pub leaf-so : (leb (1) (low_at_of ws a) ≡ true) → (leb (low_at_of ws a) (high_at_of ws a) ≡ true) → (leb (high_at_of ws a) (2 ^ 62) ≡ true) →
      (eqb (total_at_of ws a) (suc (high_at_of ws a) - low_at_of ws a) ≡ true) → leaf_true_of ws a ≡ true
  unfolding leaf_true_of
  leaf-so a0 a1 a2 a3 = rw (a0, a1, a2, a3, leaf_true_of) refl

  pub leaf-code : 1 ≤ low_at_of ws a → low_at_of ws a ≤ high_at_of ws a → high_at_of ws a ≤ 2 ^ 62 → eqb (total_at_of ws a) (high_at_of ws a - low_at_of ws a + 1) ≡ leaf_true_of ws a
  leaf-code p0 p1 p2 = leaf_last p0 p1 p2 (eqb (total_at_of ws a) (high_at_of ws a - low_at_of ws a + 1)) (ap (eqb (total_at_of ws a)) (omega arith))

module _ (ws : List ℕ) (a b c : ℕ) where
  pub two-no0 : (q : low_at_of ws a ≡ low_at_of ws b → ⊥) → false ≡ two_sound_of ws a b c
  unfolding two_sound_of
  two-no0 q =
      let w0 : eqb (low_at_of ws a) (low_at_of ws b) ≡ false = ne_eqb (low_at_of ws a) (low_at_of ws b) q in
      rw (w0, two_sound_of) refl

  pub two-no1 : (p0 : low_at_of ws a ≡ low_at_of ws b) (q : high_at_of ws a ≡ high_at_of ws c → ⊥) → false ≡ two_sound_of ws a b c
  unfolding two_sound_of
  two-no1 p0 q =
      let w0 : eqb (low_at_of ws a) (low_at_of ws b) ≡ true = eq-eqb (low_at_of ws a) (low_at_of ws b) p0 in
      let w1 : eqb (high_at_of ws a) (high_at_of ws c) ≡ false = ne_eqb (high_at_of ws a) (high_at_of ws c) q in
      rw (w0, w1, two_sound_of) refl

  pub two-no2 : (p0 : low_at_of ws a ≡ low_at_of ws b) (p1 : high_at_of ws a ≡ high_at_of ws c) (q : second_at_of ws a ≡ low_at_of ws c → ⊥) → false ≡ two_sound_of ws a b c
  unfolding two_sound_of
  two-no2 p0 p1 q =
      let w0 : eqb (low_at_of ws a) (low_at_of ws b) ≡ true = eq-eqb (low_at_of ws a) (low_at_of ws b) p0 in
      let w1 : eqb (high_at_of ws a) (high_at_of ws c) ≡ true = eq-eqb (high_at_of ws a) (high_at_of ws c) p1 in
      let w2 : eqb (second_at_of ws a) (low_at_of ws c) ≡ false = ne_eqb (second_at_of ws a) (low_at_of ws c) q in
      rw (w0, w1, w2, two_sound_of) refl

  pub two-no3 : (p0 : low_at_of ws a ≡ low_at_of ws b) (p1 : high_at_of ws a ≡ high_at_of ws c) (p2 : second_at_of ws a ≡ low_at_of ws c) (q : third_at ws a ≡ 0 → ⊥)
      → false ≡ two_sound_of ws a b c
  unfolding two_sound_of
  two-no3 p0 p1 p2 q =
      let w0 : eqb (low_at_of ws a) (low_at_of ws b) ≡ true = eq-eqb (low_at_of ws a) (low_at_of ws b) p0 in
      let w1 : eqb (high_at_of ws a) (high_at_of ws c) ≡ true = eq-eqb (high_at_of ws a) (high_at_of ws c) p1 in
      let w2 : eqb (second_at_of ws a) (low_at_of ws c) ≡ true = eq-eqb (second_at_of ws a) (low_at_of ws c) p2 in
      let w3 : eqb (third_at ws a) (0) ≡ false = ne_eqb (third_at ws a) (0) q in
      rw (w0, w1, w2, w3, two_sound_of) refl

  pub two-no4 : (p0 : low_at_of ws a ≡ low_at_of ws b) (p1 : high_at_of ws a ≡ high_at_of ws c) (p2 : second_at_of ws a ≡ low_at_of ws c) (p3 : third_at ws a ≡ 0) (t4 : Bool)
      (e4 : t4 ≡ leb (high_at_of ws b + 2) (low_at_of ws c)) (q : not t4 ≡ true) → false ≡ two_sound_of ws a b c
  unfolding two_sound_of
  two-no4 p0 p1 p2 p3 t4 e4 q =
      let w0 : eqb (low_at_of ws a) (low_at_of ws b) ≡ true = eq-eqb (low_at_of ws a) (low_at_of ws b) p0 in
      let w1 : eqb (high_at_of ws a) (high_at_of ws c) ≡ true = eq-eqb (high_at_of ws a) (high_at_of ws c) p1 in
      let w2 : eqb (second_at_of ws a) (low_at_of ws c) ≡ true = eq-eqb (second_at_of ws a) (low_at_of ws c) p2 in
      let w3 : eqb (third_at ws a) (0) ≡ true = eq-eqb (third_at ws a) (0) p3 in
      let w4 : leb (high_at_of ws b + 2) (low_at_of ws c) ≡ false = sym e4 ∙ not-true t4 q in
      rw (w0, w1, w2, w3, w4, two_sound_of) refl

  pub two-last : (p0 : low_at_of ws a ≡ low_at_of ws b) (p1 : high_at_of ws a ≡ high_at_of ws c) (p2 : second_at_of ws a ≡ low_at_of ws c) (p3 : third_at ws a ≡ 0) (t4 : Bool)
      (e4 : t4 ≡ leb (high_at_of ws b + 2) (low_at_of ws c)) (p4 : not t4 ≡ false) (r : Bool) → r ≡ eqb (total_at_of ws a) (total_at_of ws b + total_at_of ws c) → r ≡ two_sound_of ws a b c
  unfolding two_sound_of
  two-last p0 p1 p2 p3 t4 e4 p4 r e =
      let w0 : eqb (low_at_of ws a) (low_at_of ws b) ≡ true = eq-eqb (low_at_of ws a) (low_at_of ws b) p0 in
      let w1 : eqb (high_at_of ws a) (high_at_of ws c) ≡ true = eq-eqb (high_at_of ws a) (high_at_of ws c) p1 in
      let w2 : eqb (second_at_of ws a) (low_at_of ws c) ≡ true = eq-eqb (second_at_of ws a) (low_at_of ws c) p2 in
      let w3 : eqb (third_at ws a) (0) ≡ true = eq-eqb (third_at ws a) (0) p3 in
      let w4 : leb (high_at_of ws b + 2) (low_at_of ws c) ≡ true = sym e4 ∙ not-false t4 p4 in
      rw (w0, w1, w2, w3, w4, two_sound_of) e

  pub two-true : two_sound_of ws a b c ≡ true → (eqb (low_at_of ws a) (low_at_of ws b) ≡ true) × (eqb (high_at_of ws a) (high_at_of ws c) ≡ true)
      × (eqb (second_at_of ws a) (low_at_of ws c) ≡ true) ×
      (eqb (third_at ws a) (0) ≡ true) × (leb (high_at_of ws b + 2) (low_at_of ws c) ≡ true) × (eqb (total_at_of ws a) (total_at_of ws b + total_at_of ws c) ≡ true)
  unfolding two_sound_of
  two-true e =
      let s6 = and_parts ((eqb (low_at_of ws a) (low_at_of ws b)) && (eqb (high_at_of ws a) (high_at_of ws c)) && (eqb (second_at_of ws a) (low_at_of ws c)) && (eqb (third_at ws a) (0)) &&
      (leb (high_at_of ws b + 2) (low_at_of ws c))) (eqb (total_at_of ws a) (total_at_of ws b + total_at_of ws c)) e in
      let s5 = and_parts ((eqb (low_at_of ws a) (low_at_of ws b)) && (eqb (high_at_of ws a) (high_at_of ws c)) && (eqb (second_at_of ws a) (low_at_of ws c)) && (eqb (third_at ws a) (0)))
      (leb (high_at_of ws b + 2) (low_at_of ws c)) s6.0 in
      let s4 = and_parts ((eqb (low_at_of ws a) (low_at_of ws b)) && (eqb (high_at_of ws a) (high_at_of ws c)) && (eqb (second_at_of ws a) (low_at_of ws c))) (eqb (third_at ws a) (0)) s5.0 in
      let s3 = and_parts ((eqb (low_at_of ws a) (low_at_of ws b)) && (eqb (high_at_of ws a) (high_at_of ws c))) (eqb (second_at_of ws a) (low_at_of ws c)) s4.0 in
      let s2 = and_parts ((eqb (low_at_of ws a) (low_at_of ws b))) (eqb (high_at_of ws a) (high_at_of ws c)) s3.0 in
      (s2.0, s2.1, s3.1, s4.1, s5.1, s6.1)

  pub two-so : (eqb (low_at_of ws a) (low_at_of ws b) ≡ true) → (eqb (high_at_of ws a) (high_at_of ws c) ≡ true) → (eqb (second_at_of ws a) (low_at_of ws c) ≡ true)
      → (eqb (third_at ws a) (0) ≡ true) →
      (leb (high_at_of ws b + 2) (low_at_of ws c) ≡ true) → (eqb (total_at_of ws a) (total_at_of ws b + total_at_of ws c) ≡ true) → two_sound_of ws a b c ≡ true
  unfolding two_sound_of
  two-so a0 a1 a2 a3 a4 a5 = rw (a0, a1, a2, a3, a4, a5, two_sound_of) refl

module _ (ws : List ℕ) (a b c d : ℕ) where
  pub three-no0 : (q : low_at_of ws a ≡ low_at_of ws b → ⊥) → false ≡ three_sound_of ws a b c d
  unfolding three_sound_of
  three-no0 q =
      let w0 : eqb (low_at_of ws a) (low_at_of ws b) ≡ false = ne_eqb (low_at_of ws a) (low_at_of ws b) q in
      rw (w0, three_sound_of) refl

  pub three-no1 : (p0 : low_at_of ws a ≡ low_at_of ws b) (q : high_at_of ws a ≡ high_at_of ws d → ⊥) → false ≡ three_sound_of ws a b c d
  unfolding three_sound_of
  three-no1 p0 q =
      let w0 : eqb (low_at_of ws a) (low_at_of ws b) ≡ true = eq-eqb (low_at_of ws a) (low_at_of ws b) p0 in
      let w1 : eqb (high_at_of ws a) (high_at_of ws d) ≡ false = ne_eqb (high_at_of ws a) (high_at_of ws d) q in
      rw (w0, w1, three_sound_of) refl

  pub three-no2 : (p0 : low_at_of ws a ≡ low_at_of ws b) (p1 : high_at_of ws a ≡ high_at_of ws d) (q : second_at_of ws a ≡ low_at_of ws c → ⊥) → false ≡ three_sound_of ws a b c d
  unfolding three_sound_of
  three-no2 p0 p1 q =
      let w0 : eqb (low_at_of ws a) (low_at_of ws b) ≡ true = eq-eqb (low_at_of ws a) (low_at_of ws b) p0 in
      let w1 : eqb (high_at_of ws a) (high_at_of ws d) ≡ true = eq-eqb (high_at_of ws a) (high_at_of ws d) p1 in
      let w2 : eqb (second_at_of ws a) (low_at_of ws c) ≡ false = ne_eqb (second_at_of ws a) (low_at_of ws c) q in
      rw (w0, w1, w2, three_sound_of) refl

  pub three-no3 : (p0 : low_at_of ws a ≡ low_at_of ws b) (p1 : high_at_of ws a ≡ high_at_of ws d) (p2 : second_at_of ws a ≡ low_at_of ws c) (q : third_at ws a ≡ low_at_of ws d
      → ⊥) → false ≡ three_sound_of ws a b
      c d
  unfolding three_sound_of
  three-no3 p0 p1 p2 q =
      let w0 : eqb (low_at_of ws a) (low_at_of ws b) ≡ true = eq-eqb (low_at_of ws a) (low_at_of ws b) p0 in
      let w1 : eqb (high_at_of ws a) (high_at_of ws d) ≡ true = eq-eqb (high_at_of ws a) (high_at_of ws d) p1 in
      let w2 : eqb (second_at_of ws a) (low_at_of ws c) ≡ true = eq-eqb (second_at_of ws a) (low_at_of ws c) p2 in
      let w3 : eqb (third_at ws a) (low_at_of ws d) ≡ false = ne_eqb (third_at ws a) (low_at_of ws d) q in
      rw (w0, w1, w2, w3, three_sound_of) refl

  pub three-no4 : (p0 : low_at_of ws a ≡ low_at_of ws b) (p1 : high_at_of ws a ≡ high_at_of ws d) (p2 : second_at_of ws a ≡ low_at_of ws c) (p3 : third_at ws a ≡ low_at_of ws d) (t4 : Bool)
      (e4 : t4 ≡ leb (high_at_of ws b + 2) (low_at_of ws c)) (q : not t4 ≡ true) → false ≡ three_sound_of ws a b c d
  unfolding three_sound_of
  three-no4 p0 p1 p2 p3 t4 e4 q =
      let w0 : eqb (low_at_of ws a) (low_at_of ws b) ≡ true = eq-eqb (low_at_of ws a) (low_at_of ws b) p0 in
      let w1 : eqb (high_at_of ws a) (high_at_of ws d) ≡ true = eq-eqb (high_at_of ws a) (high_at_of ws d) p1 in
      let w2 : eqb (second_at_of ws a) (low_at_of ws c) ≡ true = eq-eqb (second_at_of ws a) (low_at_of ws c) p2 in
      let w3 : eqb (third_at ws a) (low_at_of ws d) ≡ true = eq-eqb (third_at ws a) (low_at_of ws d) p3 in
      let w4 : leb (high_at_of ws b + 2) (low_at_of ws c) ≡ false = sym e4 ∙ not-true t4 q in
      rw (w0, w1, w2, w3, w4, three_sound_of) refl

  pub three-no5 : (p0 : low_at_of ws a ≡ low_at_of ws b) (p1 : high_at_of ws a ≡ high_at_of ws d) (p2 : second_at_of ws a ≡ low_at_of ws c) (p3 : third_at ws a ≡ low_at_of ws d) (t4 : Bool)
      (e4 : t4 ≡ leb (high_at_of ws b + 2) (low_at_of ws c)) (p4 : not t4 ≡ false) (t5 : Bool) (e5 : t5 ≡ leb (high_at_of ws c + 2) (low_at_of ws d)) (q : not t5 ≡ true)
      → false ≡ three_sound_of ws a b c
      d
  unfolding three_sound_of
  three-no5 p0 p1 p2 p3 t4 e4 p4 t5 e5 q =
      let w0 : eqb (low_at_of ws a) (low_at_of ws b) ≡ true = eq-eqb (low_at_of ws a) (low_at_of ws b) p0 in
      let w1 : eqb (high_at_of ws a) (high_at_of ws d) ≡ true = eq-eqb (high_at_of ws a) (high_at_of ws d) p1 in
      let w2 : eqb (second_at_of ws a) (low_at_of ws c) ≡ true = eq-eqb (second_at_of ws a) (low_at_of ws c) p2 in
      let w3 : eqb (third_at ws a) (low_at_of ws d) ≡ true = eq-eqb (third_at ws a) (low_at_of ws d) p3 in
      let w4 : leb (high_at_of ws b + 2) (low_at_of ws c) ≡ true = sym e4 ∙ not-false t4 p4 in
      let w5 : leb (high_at_of ws c + 2) (low_at_of ws d) ≡ false = sym e5 ∙ not-true t5 q in
      rw (w0, w1, w2, w3, w4, w5, three_sound_of) refl

  pub three-last : (p0 : low_at_of ws a ≡ low_at_of ws b) (p1 : high_at_of ws a ≡ high_at_of ws d) (p2 : second_at_of ws a ≡ low_at_of ws c) (p3 : third_at ws a ≡ low_at_of ws d) (t4 : Bool)
      (e4 : t4 ≡ leb (high_at_of ws b + 2) (low_at_of ws c)) (p4 : not t4 ≡ false) (t5 : Bool) (e5 : t5 ≡ leb (high_at_of ws c + 2) (low_at_of ws d)) (p5 : not t5
      ≡ false) (r : Bool) → r ≡ eqb
      (total_at_of ws a) (total_at_of ws b + total_at_of ws c + total_at_of ws d) → r ≡ three_sound_of ws a b c d
  unfolding three_sound_of
  three-last p0 p1 p2 p3 t4 e4 p4 t5 e5 p5 r e =
      let w0 : eqb (low_at_of ws a) (low_at_of ws b) ≡ true = eq-eqb (low_at_of ws a) (low_at_of ws b) p0 in
      let w1 : eqb (high_at_of ws a) (high_at_of ws d) ≡ true = eq-eqb (high_at_of ws a) (high_at_of ws d) p1 in
      let w2 : eqb (second_at_of ws a) (low_at_of ws c) ≡ true = eq-eqb (second_at_of ws a) (low_at_of ws c) p2 in
      let w3 : eqb (third_at ws a) (low_at_of ws d) ≡ true = eq-eqb (third_at ws a) (low_at_of ws d) p3 in
      let w4 : leb (high_at_of ws b + 2) (low_at_of ws c) ≡ true = sym e4 ∙ not-false t4 p4 in
      let w5 : leb (high_at_of ws c + 2) (low_at_of ws d) ≡ true = sym e5 ∙ not-false t5 p5 in
      rw (w0, w1, w2, w3, w4, w5, three_sound_of) e

  pub three-true : three_sound_of ws a b c d ≡ true → (eqb (low_at_of ws a) (low_at_of ws b) ≡ true) × (eqb (high_at_of ws a) (high_at_of ws d) ≡ true)
      × (eqb (second_at_of ws a) (low_at_of ws c) ≡ true) ×
      (eqb (third_at ws a) (low_at_of ws d) ≡ true) × (leb (high_at_of ws b + 2) (low_at_of ws c) ≡ true) × (leb (high_at_of ws c + 2) (low_at_of ws d) ≡ true) ×
      (eqb (total_at_of ws a) (total_at_of ws b + total_at_of ws c + total_at_of ws d) ≡ true)
  unfolding three_sound_of
  three-true e =
      let s7 = and_parts ((eqb (low_at_of ws a) (low_at_of ws b)) && (eqb (high_at_of ws a) (high_at_of ws d)) && (eqb (second_at_of ws a) (low_at_of ws c))
      && (eqb (third_at ws a) (low_at_of ws d)) &&
      (leb (high_at_of ws b + 2) (low_at_of ws c)) && (leb (high_at_of ws c + 2) (low_at_of ws d))) (eqb (total_at_of ws a) (total_at_of ws b + total_at_of ws c + total_at_of ws d)) e in
      let s6 = and_parts ((eqb (low_at_of ws a) (low_at_of ws b)) && (eqb (high_at_of ws a) (high_at_of ws d)) && (eqb (second_at_of ws a) (low_at_of ws c))
      && (eqb (third_at ws a) (low_at_of ws d)) &&
      (leb (high_at_of ws b + 2) (low_at_of ws c))) (leb (high_at_of ws c + 2) (low_at_of ws d)) s7.0 in
      let s5 = and_parts ((eqb (low_at_of ws a) (low_at_of ws b)) && (eqb (high_at_of ws a) (high_at_of ws d)) && (eqb (second_at_of ws a) (low_at_of ws c)) && (eqb (third_at ws a) (low_at_of ws d)))
      (leb (high_at_of ws b + 2) (low_at_of ws c)) s6.0 in
      let s4 = and_parts ((eqb (low_at_of ws a) (low_at_of ws b)) && (eqb (high_at_of ws a) (high_at_of ws d))
      && (eqb (second_at_of ws a) (low_at_of ws c))) (eqb (third_at ws a) (low_at_of ws d)) s5.0 in
      let s3 = and_parts ((eqb (low_at_of ws a) (low_at_of ws b)) && (eqb (high_at_of ws a) (high_at_of ws d))) (eqb (second_at_of ws a) (low_at_of ws c)) s4.0 in
      let s2 = and_parts ((eqb (low_at_of ws a) (low_at_of ws b))) (eqb (high_at_of ws a) (high_at_of ws d)) s3.0 in
      (s2.0, s2.1, s3.1, s4.1, s5.1, s6.1, s7.1)

  pub three-so : (eqb (low_at_of ws a) (low_at_of ws b) ≡ true) → (eqb (high_at_of ws a) (high_at_of ws d) ≡ true) → (eqb (second_at_of ws a) (low_at_of ws c) ≡ true) →
      (eqb (third_at ws a) (low_at_of ws d) ≡ true) → (leb (high_at_of ws b + 2) (low_at_of ws c) ≡ true) → (leb (high_at_of ws c + 2) (low_at_of ws d) ≡ true) →
      (eqb (total_at_of ws a) (total_at_of ws b + total_at_of ws c + total_at_of ws d) ≡ true) → three_sound_of ws a b c d ≡ true
  unfolding three_sound_of
  three-so a0 a1 a2 a3 a4 a5 a6 = rw (a0, a1, a2, a3, a4, a5, a6, three_sound_of) refl
