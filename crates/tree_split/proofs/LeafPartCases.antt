-- Cases of `below` and `above` at a leaf: it is kept, or it is not.
use Rattle.model.proofs.Prelude.{ℕ, ◌≤◌, ◌<◌, ◌+◌, ◌≡◌, ◌∙◌, ap, sym, subst, true, Bool, false, List, [], ◌∷◌, leb, arith, leb-true, leb-false}
use Rattle.model.specs.Runs.{Run}
use Rattle.tree_words.specs.TreeLayout.{low_at_of, high_at_of, run_in_of, leaves_at}
use Rattle.tree_words.specs.Nodes.{Good}
use Rattle.tree_split.specs.Splitting.{Splits, SplitInput}
use Rattle.tree_words.specs.KeptRuns.{keep_below, keep_above}
use Rattle.tree_words.proofs.NodeLaws.{leaves-leaf, kept-none}
use Rattle.tree_words.proofs.KeepLaws.{below_in, below_out, below-nil, above_in, above-out, above-nil}

leaf-row : (ws : List ℕ) (h a : ℕ) → h ≡ 0 → leaves_at ws h a ≡ run_in_of ws a ∷ []
leaf-row ws h a z = ap (λ (x : ℕ). leaves_at ws x a) z ∙ leaves-leaf ws a

-- ---- below

below_one : (low : ℕ) (r : Run) → r.high + 1 < low → keep_below low (r ∷ []) ≡ r ∷ []
below_one low r q = below_in low r [] q ∙ ap (λ (l : List Run). r ∷ l) (below-nil low)

below-one-no : (low : ℕ) (r : Run) → low ≤ r.high + 1 → keep_below low (r ∷ []) ≡ []
below-one-no low r q = below_out low r [] q ∙ below-nil low

module _ (ws : List ℕ) (start free h a low : ℕ) (n : SplitInput ws start free h a) (t : Bool) (et : t ≡ leb low (high_at_of ws a + 1)) where
  pub leaf-none : h ≡ 0 → t ≡ true → Splits ws ws start free h (keep_below low (leaves_at ws h a)) (record { levels = 0; root = 0; free = free })
  leaf-none z e = record {
    whole = tt;
    leaves = sym (ap (keep_below low) (leaf-row ws h a z) ∙ below-one-no low (run_in_of ws a) (leb-true low (high_at_of ws a + 1) (sym et ∙ e)));
    kept = kept-none ws free;
    spent = omega arith;
    at_most = omega arith;
  }

  pub leaf-kept : h ≡ 0 → t ≡ false → Splits ws ws start free h (keep_below low (leaves_at ws h a)) (record { levels = 1; root = a; free = free })
  leaf-kept z e = record {
    whole = subst (λ (x : ℕ). Good ws start free x a) z n.good;
    leaves = leaves-leaf ws a ∙ sym (ap (keep_below low) (leaf-row ws h a z) ∙ below_one low (run_in_of ws a) (leb-false low (high_at_of ws a + 1) (sym et ∙ e)));
    kept = kept-none ws free;
    spent = omega arith;
    at_most = omega arith;
  }

-- ---- above

above-one : (high : ℕ) (r : Run) → high + 1 < r.low → keep_above high (r ∷ []) ≡ r ∷ []
above-one high r q = above_in high r [] q ∙ ap (λ (l : List Run). r ∷ l) (above-nil high)

above-one-no : (high : ℕ) (r : Run) → r.low ≤ high + 1 → keep_above high (r ∷ []) ≡ []
above-one-no high r q = above-out high r [] q ∙ above-nil high

module _ (ws : List ℕ) (start free h a high : ℕ) (n : SplitInput ws start free h a) (t : Bool) (et : t ≡ leb (low_at_of ws a) (high + 1)) where
  pub upper_none : h ≡ 0 → t ≡ true → Splits ws ws start free h (keep_above high (leaves_at ws h a)) (record { levels = 0; root = 0; free = free })
  upper_none z e = record {
    whole = tt;
    leaves = sym (ap (keep_above high) (leaf-row ws h a z) ∙ above-one-no high (run_in_of ws a) (leb-true (low_at_of ws a) (high + 1) (sym et ∙ e)));
    kept = kept-none ws free;
    spent = omega arith;
    at_most = omega arith;
  }

  pub upper_kept : h ≡ 0 → t ≡ false → Splits ws ws start free h (keep_above high (leaves_at ws h a)) (record { levels = 1; root = a; free = free })
  upper_kept z e = record {
    whole = subst (λ (x : ℕ). Good ws start free x a) z n.good;
    leaves = leaves-leaf ws a ∙ sym (ap (keep_above high) (leaf-row ws h a z) ∙ above-one high (run_in_of ws a) (leb-false (low_at_of ws a) (high + 1) (sym et ∙ e)));
    kept = kept-none ws free;
    spent = omega arith;
    at_most = omega arith;
  }
