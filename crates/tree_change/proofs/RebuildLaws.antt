-- A tree with known leaves, made in the root's space of sound words, becomes their tree: what `put_tree` asks, and what it leaves.
use Rattle.model.proofs.Prelude.{ℕ, ◌≤◌, ◌<◌, ◌+◌, ◌≡◌, ◌∙◌, ap, refl, sym, subst, ⊎_elim, inl, inr, List, length, arith, lt-ltb, le-ltb}
use Rattle.model.specs.Runs.{Run}
use Rattle.model.proofs.BoolLaws.{le_or_lt}
use Rattle.tree_words.specs.TreeLayout.{root_in, free_in, space_start_of, space_end_of}
use Rattle.tree_words.specs.Nodes.{Kept}
use Rattle.tree_compaction.specs.Compaction.{SpaceTo, RootReady, RootWritten}
use Rattle.tree_change.specs.Changing.{Holds, Ready, Rebuilt}
use Rattle.tree_check.proofs.HeadCases.{end-le}

space-to : (root free : ℕ) → free ≤ space_end_of root → SpaceTo (space_start_of root) free
space-to root free q =
    ⊎_elim
    (λ (p : 16384 ≤ root). let w = le-ltb root 16384 p in inr (rw w refl, rw w at q))
    (λ (p : root < 16384). let w = lt-ltb root 16384 p in inl (rw w refl, rw w at q))
    (le_or_lt 16384 root)

module _ {ws ws1 : List ℕ} {high start free n a : ℕ} {rs : List Run}
    (ask : Ready ws high) (es : start ≡ space_start_of (root_in ws)) (k : Kept ws ws1 (free_in ws) free) (spent : free ≤ free_in ws + 1100)
    (few : length rs ≤ 1024) (h : Holds ws1 start free n a rs) where
  top : free ≤ space_end_of (root_in ws)
  top = omega (arith, ask.room)

  pub rebuilt-ready : RootReady ws1 start n a free
  rebuilt-ready =
      let e = ap length h.runs in
      record {
        long = omega (arith, k.sized, ask.tree.long);
        space = subst (λ (x : ℕ). SpaceTo x free) (sym es) (space-to (root_in ws) free top);
        whole = h.whole;
        few = omega (arith, e);
      }

  pub rebuilt : {ws2 : List ℕ} → RootWritten ws1 ws2 n a free → Rebuilt ws ws2 rs
  rebuilt p = record {
    sized = p.kept.sized ∙ k.sized;
    past = λ i q. p.kept.behind i (omega arith) ∙ k.behind i (omega (arith, top, end-le (root_in ws)));
    sound = p.sound;
    runs = p.runs ∙ h.runs;
  }
