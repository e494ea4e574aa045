-- Laws of trees with known leaves: they are kept where their words are, and joined.
use Rattle.model.proofs.Prelude.{ℕ, ◌≤◌, ◌+◌, suc, zero, ◌≡◌, ◌∙◌, refl, sym, subst, ap₂, List, ◌++◌}
use Rattle.model.specs.Runs.{Run}
use Rattle.tree_words.specs.TreeLayout.{leaves_of}
use Rattle.tree_words.specs.Nodes.{Whole, Kept, Sep}
use Rattle.tree_join.specs.Joining.{Both, Joins}
use Rattle.tree_join.specs.declared.inner.Part.{Part}
use Rattle.tree_change.specs.Changing.{Holds}
use Rattle.tree_words.proofs.NodeLaws.{good-kept, leaves_kept}

module _ {ws ws' : List ℕ} {free to : ℕ} (k : Kept ws ws' free to) where
  whole-kept : (start n a : ℕ) → Whole ws start free n a → Whole ws' start to n a
  whole-kept start zero a w = tt
  whole-kept start (suc h) a w = good-kept ws ws' start free to k w

  of_kept : (start n a : ℕ) → Whole ws start free n a → leaves_of ws' n a ≡ leaves_of ws n a
  of_kept start zero a w = refl
  of_kept start (suc h) a w = leaves_kept ws ws' start free to k w

  pub holds_kept : {start n a : ℕ} {rs : List Run} → Holds ws start free n a rs → Holds ws' start to n a rs
  holds_kept {start} {n} {a} h = record { whole = whole-kept start n a h.whole; runs = of_kept start n a h.whole ∙ h.runs }

module _ {ws : List ℕ} {start free l a m b : ℕ} {xs ys : List Run} (x : Holds ws start free l a xs) (y : Holds ws start free m b ys) where
  row : leaves_of ws l a ++ leaves_of ws m b ≡ xs ++ ys
  row = ap₂ (λ (p q : List Run). p ++ q) x.runs y.runs

  pub holds-both : l ≤ 20 → m ≤ 20 → Sep (xs ++ ys) → Both ws start free l a m b
  holds-both p q s = record { small_a = p; small_b = q; whole_a = x.whole; whole_b = y.whole; sep = subst (λ (z : List Run). Sep z) (sym row) s }

  pub holds-joined : {ws' : List ℕ} {p : Part} → Joins ws ws' start free l a m b p → Holds ws' start p.free p.levels p.root (xs ++ ys)
  holds-joined j = record { whole = j.whole; runs = j.leaves ∙ row }
