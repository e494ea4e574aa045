-- Where the first child reaches a number, the runs below the number are all in it.
use Rattle.model.proofs.Prelude.{ℕ, ◌≤◌, ◌+◌, suc, ◌≡◌, ◌∙◌, ap, ap₂, List, ◌++◌, append-nil, arith}
use Rattle.model.specs.Runs.{Run}
use Rattle.tree_words.specs.TreeLayout.{low_at_of, high_at_of, child1, child2, child3, leaves_at}
use Rattle.tree_words.specs.Nodes.{Good, good-two, good-three}
use Rattle.tree_words.specs.KeptRuns.{keep_below}
use Rattle.tree_words.proofs.NodeLaws.{good-bounds, leaves-two, leaves-three}
use Rattle.tree_words.proofs.KeepLaws.{good-within, below-append, below-no}

module _ {ws : List ℕ} {start free k a : ℕ} (low : ℕ) where
  pub below-first : Good ws start free (suc k) a → low ≤ high_at_of ws (child1 ws a) + 1 → keep_below low (leaves_at ws (suc k) a) ≡ keep_below low (leaves_at ws k (child1 ws a))
  below-first (good-two t x y) q =
      ap (keep_below low) (leaves-two ws k a t.no_third)
      ∙ below-append low (leaves_at ws k (child1 ws a)) (leaves_at ws k (child2 ws a))
      ∙ ap (λ (l : List Run). keep_below low (leaves_at ws k (child1 ws a)) ++ l)
      (below-no low (low_at_of ws (child2 ws a)) (high_at_of ws (child2 ws a)) (leaves_at ws k (child2 ws a)) (good-within y) (omega (arith, q, t.apart)))
      ∙ append-nil (keep_below low (leaves_at ws k (child1 ws a)))
  below-first (good-three t x y z) q =
      let bd = good-bounds y in
      ap (keep_below low) (leaves-three ws k a t.some_third)
      ∙ below-append low (leaves_at ws k (child1 ws a)) (leaves_at ws k (child2 ws a) ++ leaves_at ws k (child3 ws a))
      ∙ ap (λ (l : List Run). keep_below low (leaves_at ws k (child1 ws a)) ++ l)
      (below-append low (leaves_at ws k (child2 ws a)) (leaves_at ws k (child3 ws a))
      ∙ ap₂ (λ (l m : List Run). l ++ m)
      (below-no low (low_at_of ws (child2 ws a)) (high_at_of ws (child2 ws a)) (leaves_at ws k (child2 ws a)) (good-within y) (omega (arith, q, t.apart)))
      (below-no low (low_at_of ws (child3 ws a)) (high_at_of ws (child3 ws a)) (leaves_at ws k (child3 ws a)) (good-within z) (omega (arith, q, t.apart, t.apart2, bd.order))))
      ∙ append-nil (keep_below low (leaves_at ws k (child1 ws a)))
