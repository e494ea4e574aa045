-- What holds of every tree in the layout: document 02's sentences about the tree, as theorems about sound words.
use Rattle.model.proofs.Prelude.{ℕ, ◌≤◌, ◌<◌, ◌+◌, ◌-◌, suc, ◌^◌, ◌≡◌, ◌∙◌, ap, refl, sym, subst, ⊎_elim, true, Bool, List, [], length, arith}
use lib.Pow.{pow_mono}
use Rattle.model.specs.Runs.{Run, runs_among, in_runs, size, Separated}
use Rattle.model.proofs.BoolLaws.{le_or_lt}
use Rattle.model.proofs.RunLaws.{runs-of_runs, runs_same}
use Rattle.tree_words.specs.TreeShape.{least_of, most_of, Levels, at_leaf, at-two, at-three}
use Rattle.tree_words.specs.TreeLayout.{low_at_of, high_at_of, total_at_of, child1, child2, child3, run_in_of, levels_in, tree_at, leaves_at, tree_runs, sound_words_of}
use Rattle.tree_words.specs.Nodes.{Good, good-leaf, good-two, good-three, Sep}
use Rattle.tree_words.proofs.NodeLaws.{tree-two, tree-three, leaves-two, leaves-three}
use Rattle.tree_words.proofs.SepLaws.{good-total}
use Rattle.tree_words.proofs.ChildLaws.{many}
use Rattle.tree_words.proofs.KeepLaws.{good-sep}
use Rattle.tree_check.proofs.HeadCases.{words-sound, runs_none, runs-some}

-- ---- the tree below a sound node: all leaves equally deep, two or three children, every recorded number true

least_at : (ws : List ℕ) (h a : ℕ) {start free : ℕ} → Good ws start free h a → least_of (tree_at ws h a) ≡ low_at_of ws a
unfolding tree_at
least_at ws h a (good-leaf t) = refl
least_at ws (suc h) a (good-two t b c) = ap least_of (tree-two ws h a t.no_third)
least_at ws (suc h) a (good-three t b c d) = ap least_of (tree-three ws h a t.some_third)

most-at : (ws : List ℕ) (h a : ℕ) {start free : ℕ} → Good ws start free h a → most_of (tree_at ws h a) ≡ high_at_of ws a
unfolding tree_at
most-at ws h a (good-leaf t) = refl
most-at ws (suc h) a (good-two t b c) = ap most_of (tree-two ws h a t.no_third)
most-at ws (suc h) a (good-three t b c d) = ap most_of (tree-three ws h a t.some_third)

pub good-levels : (ws : List ℕ) {start free : ℕ} (h a : ℕ) → Good ws start free h a → Levels (suc h) (tree_at ws h a)
unfolding tree_at size
good-levels ws h a (good-leaf t) = at_leaf {n = total_at_of ws a} {r = run_in_of ws a} (omega (arith, t.counted))
good-levels ws (suc h) a (good-two t b c) =
    rw (tree-two ws h a t.no_third)
    (at-two (good-levels ws h (child1 ws a) b) (good-levels ws h (child2 ws a) c)
    (t.low ∙ sym (least_at ws h (child1 ws a) b)) (t.high ∙ sym (most-at ws h (child2 ws a) c)) (t.second ∙ sym (least_at ws h (child2 ws a) c)) t.third
    (good-total (good-two t b c) ∙ ap size (leaves-two ws h a t.no_third)))
good-levels ws (suc h) a (good-three t b c d) =
    rw (tree-three ws h a t.some_third)
    (at-three (good-levels ws h (child1 ws a) b) (good-levels ws h (child2 ws a) c) (good-levels ws h (child3 ws a) d)
    (t.low ∙ sym (least_at ws h (child1 ws a) b)) (t.high ∙ sym (most-at ws h (child3 ws a) d)) (t.second ∙ sym (least_at ws h (child2 ws a) c))
    (t.third ∙ sym (least_at ws h (child3 ws a) d))
    (good-total (good-three t b c d) ∙ ap size (leaves-three ws h a t.some_third)))

-- ---- the levels, which are the nodes visited, are at most 1 plus the greatest w with 2^w at most the runs held

two-less : (h w n : ℕ) → 2 ^ h ≤ n → n < 2 ^ suc w → h ≤ w
two-less h w n p q = ⊎_elim (λ (r : h ≤ w). r) (λ (r : w < h). let u : 2 ^ suc w ≤ 2 ^ h = pow_mono r in absurd (omega (arith, u))) (le_or_lt h w)

-- a tree of at most 1,024 leaves has at most 11 levels
pub height_ten : {ws : List ℕ} {start free h a : ℕ} → Good ws start free h a → length (leaves_at ws h a) ≤ 1024 → h ≤ 10
height_ten {ws} {h = h} {a = a} g q = two-less h 10 (length (leaves_at ws h a)) (many g) (omega arith)

module _ (ws : List ℕ) (s : sound_words_of ws ≡ true) where
  pub levels-few : (w : ℕ) → length (tree_runs ws) < 2 ^ suc w → levels_in ws ≤ 1 + w
  levels-few w q =
      ⊎_elim
      (λ (z : levels_in ws ≤ 0). omega arith)
      (λ (z : 0 < levels_in ws).
      let ne : levels_in ws ≡ 0 → ⊥ = λ y. omega arith in
      let m = many ((words-sound ws s).good ne) in
      let e = ap length (runs-some ws ne) in
      omega (arith, two-less (levels_in ws - 1) w (length (tree_runs ws)) (omega (arith, m, e)) q))
      (le_or_lt (levels_in ws) 0)

  pub levels-none : levels_in ws ≡ 0 → tree_runs ws ≡ []
  levels-none z = runs_none ws z

  -- ---- the runs held are ascending, neighbours never adjacent or overlapping: they are the runs of the set of their numbers, as a store's are
  pub runs-sound : Sep (tree_runs ws)
  runs-sound =
      ⊎_elim
      (λ (z : levels_in ws ≤ 0). subst (λ (rs : List Run). Sep rs) (sym (runs_none ws (omega arith))) tt)
      (λ (z : 0 < levels_in ws).
      let ne : levels_in ws ≡ 0 → ⊥ = λ y. omega arith in
      subst (λ (rs : List Run). Sep rs) (sym (runs-some ws ne)) (good-sep ((words-sound ws s).good ne)))
      (le_or_lt (levels_in ws) 0)

  pub runs-few : length (tree_runs ws) ≤ 1024
  runs-few =
      ⊎_elim
      (λ (z : levels_in ws ≤ 0). let e = ap (λ (rs : List Run). length rs) (runs_none ws (omega arith)) in omega (arith, e))
      (λ (z : 0 < levels_in ws).
      let ne : levels_in ws ≡ 0 → ⊥ = λ y. omega arith in
      let e = ap (λ (rs : List Run). length rs) (runs-some ws ne) in
      omega (arith, e, (words-sound ws s).runs ne))
      (le_or_lt (levels_in ws) 0)

  pub runs-of_set : (P : ℕ → Bool) → ((j : ℕ) → 1 ≤ j → j ≤ 2 ^ 62 → in_runs (tree_runs ws) j ≡ P j) → tree_runs ws ≡ runs_among P (2 ^ 62)
  runs-of_set P h = sym (runs-of_runs (2 ^ 62) (tree_runs ws) runs-sound) ∙ runs_same (in_runs (tree_runs ws)) P (2 ^ 62) h

  -- a store's runs of the same faults are the tree's leaves
  pub runs-of_store : (rs : List Run) → Separated (2 ^ 62) 1 rs → ((j : ℕ) → 1 ≤ j → j ≤ 2 ^ 62 → in_runs (tree_runs ws) j ≡ in_runs rs j) → tree_runs ws ≡ rs
  runs-of_store rs sep h = runs-of_set (in_runs rs) h ∙ runs-of_runs (2 ^ 62) rs sep
