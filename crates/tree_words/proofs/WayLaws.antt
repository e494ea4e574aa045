-- The way to a leaf has a node of each level, and ends with the leaf.
use Rattle.model.proofs.Prelude.{ℕ, suc, zero, ◌≡◌, ap, refl, List, length, get_or}
use Rattle.tree_words.specs.TreeLayout.{levels_in, root_in}
use Rattle.tree_words.specs.Ways.{child_for, way_from, way_of, way_to}

pub way_long : (ws : List ℕ) (h a k : ℕ) → length (way_from ws h a k) ≡ suc h
unfolding way_from
way_long ws zero a k = refl
way_long ws (suc h) a k = ap suc (way_long ws h (child_for ws a k) k)

pub way-levels : (ws : List ℕ) (k : ℕ) → length (way_to ws k) ≡ levels_in ws
unfolding way_to
way-levels ws k = go (levels_in ws)
  where
    go : (n : ℕ) → length (way_of ws n (root_in ws) k) ≡ n
    go zero = refl
    go (suc h) = way_long ws h (root_in ws) k

-- ---- the leaf at its end

abbrev pub leaf_for : List ℕ → ℕ → ℕ → ℕ → ℕ
leaf_for ws h a k = get_or (way_from ws h a k) h 0

module _ (ws : List ℕ) (a k : ℕ) where
  pub leaf-here : leaf_for ws 0 a k ≡ a
  unfolding way_from
  leaf-here = refl

  pub leaf-step : (h : ℕ) → leaf_for ws (suc h) a k ≡ leaf_for ws h (child_for ws a k) k
  unfolding way_from
  leaf-step h = refl

pub leaf-root : (ws : List ℕ) (k h : ℕ) → levels_in ws ≡ suc h → get_or (way_to ws k) h 0 ≡ leaf_for ws h (root_in ws) k
unfolding way_to
leaf-root ws k h e = ap (λ (n : ℕ). get_or (way_of ws n (root_in ws) k) h 0) e
