-- The root of sound words, as the code reads it from the head.
use Rattle.model.proofs.Prelude.{ℕ, ◌≤◌, ◌+◌, ◌-◌, ◌≡◌, ◌∙◌, List, length, get_or, arith}
use Rattle.tree_words.specs.TreeLayout.{levels_in, root_in, free_in, space_start_of}
use Rattle.tree_words.specs.Nodes.{Good, SoundTree}
use Rattle.tree_words.proofs.NodeLaws.{good-bounds}
use Rattle.tree_check.proofs.HeadCases.{words-sound, end-le}

module _ (ws : List ℕ) (s : SoundTree ws) (l : ℕ) (el : l ≡ get_or ws 0 0) (ne : l ≡ 0 → ⊥) where
  some : levels_in ws ≡ 0 → ⊥
  some y = ne (el ∙ y)

  known : Good ws (space_start_of (root_in ws)) (free_in ws) (levels_in ws - 1) (root_in ws)
  known = (words-sound ws s.sound).good some

  module _ (root : ℕ) (er : root ≡ get_or ws 1 0) where
    pub root_end : root + 3 ≤ length ws
    root_end = omega (arith, er, (good-bounds known).ended, (words-sound ws s.sound).ended some, end-le (root_in ws), s.long)

    module _ (start free : ℕ) (es : start ≡ space_start_of root) (ef : free ≡ get_or ws 2 0) where
      pub root_good : Good ws start free (l - 1) root
      root_good = rw (es, ef, er, el) known

      pub root_free : free ≤ length ws
      root_free = omega (arith, ef, (words-sound ws s.sound).ended some, end-le (root_in ws), s.long)

      pub root_few : l - 1 ≤ 10
      root_few = omega (arith, el, (words-sound ws s.sound).few)
