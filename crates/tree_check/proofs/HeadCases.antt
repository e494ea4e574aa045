-- Cases of `sound_words`: the head's words, and the tree below the root.
use Rattle.model.proofs.Prelude.{ℕ, ◌≤◌, ◌<◌, ◌-◌, suc, zero, ◌≡◌, ◌∙◌, ap, refl, sym, ⊎_elim, true, Bool, false, ◌&&◌, not, List, [], length, get_or}
use Rattle.model.proofs.Prelude.{leb, eqb, arith, le-leb, lt-leb, ne_eqb, eq-eqb, not-true, not-false, lt-ltb, le-ltb, leb-true}
use Rattle.model.proofs.BoolLaws.{le_or_lt, and_parts}
use Rattle.tree_words.specs.TreeLayout.{levels_in, root_in, free_in, leaves_at, leaves_of, tree_runs, space_start_of, space_end_of, sound_at_of, sound_from, sound_words_of}
use Rattle.tree_words.specs.Nodes.{Good}
use Rattle.tree_words.proofs.ChildLaws.{level_up}
use Rattle.tree_check.proofs.TreeTestCases.{sound-good, good-sound}

pub end-le : (root : ℕ) → space_end_of root ≤ 32768
end-le root =
    ⊎_elim
    (λ (q : 16384 ≤ root). let w = le-ltb root 16384 q in rw w (omega arith))
    (λ (q : root < 16384). let w = lt-ltb root 16384 q in rw w (omega arith))
    (le_or_lt 16384 root)

pub start-ge : (root : ℕ) → 4 ≤ space_start_of root
start-ge root =
    ⊎_elim
    (λ (q : 16384 ≤ root). let w = le-ltb root 16384 q in rw w (omega arith))
    (λ (q : root < 16384). let w = lt-ltb root 16384 q in rw w (omega arith))
    (le_or_lt 16384 root)

from_zero : (ws : List ℕ) (l : ℕ) → l ≡ 0 → sound_from ws l ≡ (eqb (root_in ws) 0 && eqb (free_in ws) 0)
unfolding sound_from
from_zero ws l e = rw (e, sound_from) refl

from_suc : (ws : List ℕ) (l h : ℕ) → l ≡ suc h → sound_from ws l
    ≡ (leb (suc h) 11 && leb (free_in ws) (space_end_of (root_in ws)) && sound_at_of ws (space_start_of (root_in ws)) (free_in ws) h (root_in ws) && leb (length (leaves_at ws h (root_in ws))) 1024)
unfolding sound_from
from_suc ws l h e = rw (e, sound_from) refl

module _ (ws : List ℕ) (l root free : ℕ) (el : l ≡ get_or ws 0 0) (er : root ≡ get_or ws 1 0) (ef : free ≡ get_or ws 2 0) where
  as_from : sound_words_of ws ≡ sound_from ws l
  unfolding sound_words_of
  as_from = ap (sound_from ws) (sym el)

  module _ (z : l ≡ 0) where
    pub empty-both : root ≡ 0 → eqb free 0 ≡ sound_words_of ws
    empty-both q =
        let w = eq-eqb (root_in ws) 0 (sym er ∙ q) in
        sym (as_from ∙ from_zero ws l z ∙ rw w (ap (λ (x : ℕ). eqb x 0) (sym ef)))

    pub empty-first : (root ≡ 0 → ⊥) → eqb root 0 ≡ sound_words_of ws
    empty-first q =
        let w = ne_eqb (root_in ws) 0 (λ y. q (er ∙ y)) in
        ne_eqb root 0 q ∙ sym (as_from ∙ from_zero ws l z ∙ rw w refl)

  module _ (some : l ≡ 0 → ⊥) where
    hp : l ≡ suc (l - 1)
    hp = level_up l some

    pub levels-some : 1 ≤ l
    levels-some = omega (arith, hp)

    as_suc : sound_words_of ws
        ≡ (leb (suc (l - 1)) 11 && leb (free_in ws) (space_end_of (root_in ws)) && sound_at_of ws (space_start_of (root_in ws)) (free_in ws) (l - 1) (root_in ws) && leb
        (length (leaves_at ws (l - 1) (root_in ws))) 1024)
    as_suc = as_from ∙ from_suc ws l (l - 1) hp

    pub many-levels : 11 < l → false ≡ sound_words_of ws
    many-levels q = let w = lt-leb (suc (l - 1)) 11 (omega arith) in sym (as_suc ∙ rw w refl)

    module _ (few : l ≤ 11) (end : ℕ) (ee : end ≡ space_end_of root) where
      w1 : leb (suc (l - 1)) 11 ≡ true
      w1 = le-leb (suc (l - 1)) 11 (omega (arith, hp))

      pub past_end : end < free → false ≡ sound_words_of ws
      past_end q =
          let w = lt-leb (free_in ws) (space_end_of (root_in ws)) (omega (arith, ef, ee ∙ ap space_end_of er)) in
          sym (as_suc ∙ rw (w1, w) refl)

      module _ (fits : free ≤ end) where
        w2 : leb (free_in ws) (space_end_of (root_in ws)) ≡ true
        w2 = le-leb (free_in ws) (space_end_of (root_in ws)) (omega (arith, ef, ee ∙ ap space_end_of er))

        pub free-inside : 32768 ≤ length ws → free ≤ length ws
        free-inside q = omega (arith, end-le root)

        module _ (start : ℕ) (es : start ≡ space_start_of root) (t : Bool) (et : t ≡ sound_at_of ws start free (l - 1) root) where
          same_at : sound_at_of ws (space_start_of (root_in ws)) (free_in ws) (l - 1) (root_in ws) ≡ t
          same_at = sym (et ∙ rw (es, er, ef) refl)

          pub not_sound : not t ≡ true → false ≡ sound_words_of ws
          not_sound q = let w = same_at ∙ not-true t q in sym (as_suc ∙ rw (w1, w2, w) refl)

          module _ (q : not t ≡ false) where
            pub root_good : Good ws start free (l - 1) root
            root_good = sound-good ws start free (l - 1) root (sym et ∙ not-false t q)

            pub all-counted : (n : ℕ) → n ≡ length (leaves_at ws (l - 1) root) → leb n 1024 ≡ sound_words_of ws
            all-counted n e =
                let w = same_at ∙ not-false t q in
                let v : length (leaves_at ws (l - 1) (root_in ws)) ≡ n = sym (e ∙ ap (λ (x : ℕ). length (leaves_at ws (l - 1) x)) er) in
                sym (as_suc ∙ rw (w1, w2, w, v) refl)

-- ---- what sound words tell

pub record Sound (ws : List ℕ) : Type 0 where
  pub few : levels_in ws ≤ 11
  pub ended : (levels_in ws ≡ 0 → ⊥) → free_in ws ≤ space_end_of (root_in ws)
  pub good : (levels_in ws ≡ 0 → ⊥) → Good ws (space_start_of (root_in ws)) (free_in ws) (levels_in ws - 1) (root_in ws)
  pub runs : (levels_in ws ≡ 0 → ⊥) → length (leaves_at ws (levels_in ws - 1) (root_in ws)) ≤ 1024

four-true : (x y z w : Bool) → (x && y && z && w) ≡ true → (x ≡ true) × (y ≡ true) × (z ≡ true) × (w ≡ true)
four-true x y z w e =
    let s = and_parts (x && y && z) w e in
    let r = and_parts (x && y) z s.0 in
    let q = and_parts x y r.0 in
    (q.0, q.1, r.1, s.1)

pub words-sound : (ws : List ℕ) → sound_words_of ws ≡ true → Sound ws
words-sound ws e = go (levels_in ws) refl
  where
    some : (levels_in ws ≡ 0 → ⊥)
        → (leb (suc (levels_in ws - 1)) 11 ≡ true) × (leb (free_in ws) (space_end_of (root_in ws)) ≡ true) ×
        (sound_at_of ws (space_start_of (root_in ws)) (free_in ws) (levels_in ws - 1) (root_in ws) ≡ true) × (leb (length (leaves_at ws (levels_in ws - 1) (root_in ws))) 1024 ≡ true)
    some ne =
        four-true (leb (suc (levels_in ws - 1)) 11) (leb (free_in ws) (space_end_of (root_in ws))) (sound_at_of ws (space_start_of (root_in ws)) (free_in ws) (levels_in ws - 1) (root_in ws))
        (leb (length (leaves_at ws (levels_in ws - 1) (root_in ws))) 1024)
        (sym (as_suc ws (levels_in ws) (root_in ws) (free_in ws) refl refl refl ne) ∙ e)

    go : (l : ℕ) → levels_in ws ≡ l → Sound ws
    go zero z = record { few = omega arith; ended = λ ne. absurd (ne z); good = λ ne. absurd (ne z); runs = λ ne. absurd (ne z) }
    go (suc h) z =
        let ne : levels_in ws ≡ 0 → ⊥ = λ y. omega arith in
        record {
          few = omega (arith, leb-true (suc (levels_in ws - 1)) 11 (some ne).0);
          ended = λ n. leb-true (free_in ws) (space_end_of (root_in ws)) (some n).1;
          good = λ n. sound-good ws (space_start_of (root_in ws)) (free_in ws) (levels_in ws - 1) (root_in ws) (some n).2;
          runs = λ n. leb-true (length (leaves_at ws (levels_in ws - 1) (root_in ws))) 1024 (some n).3;
        }

pub runs_none : (ws : List ℕ) → levels_in ws ≡ 0 → tree_runs ws ≡ []
unfolding tree_runs
runs_none ws z = ap (λ (l : ℕ). leaves_of ws l (root_in ws)) z

pub runs-some : (ws : List ℕ) → (levels_in ws ≡ 0 → ⊥) → tree_runs ws ≡ leaves_at ws (levels_in ws - 1) (root_in ws)
unfolding tree_runs
runs-some ws ne = ap (λ (l : ℕ). leaves_of ws l (root_in ws)) (level_up (levels_in ws) ne)

-- ---- and what makes words sound

pub words-empty : (ws : List ℕ) → levels_in ws ≡ 0 → root_in ws ≡ 0 → free_in ws ≡ 0 → sound_words_of ws ≡ true
words-empty ws z r f =
    let w = eq-eqb (root_in ws) 0 r in
    let v = eq-eqb (free_in ws) 0 f in
    as_from ws (levels_in ws) (root_in ws) (free_in ws) refl refl refl ∙ from_zero ws (levels_in ws) z ∙ rw (w, v) refl

pub words-good : (ws : List ℕ) (h : ℕ) → levels_in ws ≡ suc h → suc h ≤ 11 → free_in ws ≤ space_end_of (root_in ws)
    → Good ws (space_start_of (root_in ws)) (free_in ws) h (root_in ws) → length (leaves_at ws h (root_in ws)) ≤ 1024 → sound_words_of ws ≡ true
words-good ws h e few fits g runs =
    let w1 = le-leb (suc h) 11 few in
    let w2 = le-leb (free_in ws) (space_end_of (root_in ws)) fits in
    let w3 = good-sound ws (space_start_of (root_in ws)) (free_in ws) g in
    let w4 = le-leb (length (leaves_at ws h (root_in ws))) 1024 runs in
    as_from ws (levels_in ws) (root_in ws) (free_in ws) refl refl refl ∙ from_suc ws (levels_in ws) h e ∙ rw (w1, w2, w3, w4) refl
