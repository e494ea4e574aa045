-- Cases of `cut`: what is below a run and what is above it, each from the whole tree, in at most 704 words.
use Rattle.model.proofs.Prelude.{ℕ, ◌≤◌, ◌+◌, ◌-◌, ◌*◌, ◌≡◌, ◌∙◌, ap, sym, subst, ap₂, List, length, get_or, arith}
use Rattle.tree_words.specs.TreeLayout.{root_in, space_start_of, space_end_of, leaves_at, tree_runs}
use Rattle.tree_words.specs.Nodes.{Good, Kept}
use Rattle.tree_words.specs.KeptRuns.{keep_below, keep_above}
use Rattle.tree_join.specs.declared.inner.Part.{Part}
use Rattle.tree_split.specs.Splitting.{Splits, SplitInput}
use Rattle.tree_change.specs.Changing.{Holds, Ready, Cuts}
use Rattle.tree_words.proofs.NodeLaws.{good-bounds, good-kept, leaves_kept, kept-kept}
use Rattle.tree_words.proofs.ChildLaws.{level_up}
use Rattle.tree_check.proofs.HeadCases.{words-sound, runs-some, start-ge, end-le}
use Rattle.tree_change.proofs.HoldsLaws.{holds_kept}

first-room : (l f e n : ℕ) → 1 ≤ l → l ≤ 11 → f + 1100 ≤ e → e ≤ n → f + 32 * (l - 1 + 1) ≤ n
first-room l f e n p q r s = omega arith

second-room : (l f g u e n : ℕ) → 1 ≤ l → l ≤ 11 → g ≤ f + (16 * (l - 1 + 1) + 16 * u) → u ≤ l - 1 + 1 → f + 1100 ≤ e → e ≤ n → g + 32 * (l - 1 + 1) ≤ n
second-room l f g u e n p q c d r s = omega arith

both-spent : (l f g k u o : ℕ) → 1 ≤ l → l ≤ 11 → g ≤ f + (16 * (l - 1 + 1) + 16 * u) → u ≤ l - 1 + 1 → k ≤ g + (16 * (l - 1 + 1) + 16 * o) → o ≤ l - 1 + 1 → k ≤ f + 704
both-spent l f g k u o p q a b c d = omega arith

module _ {ws : List ℕ} {high : ℕ} (a : Ready ws high) {l root free start : ℕ}
    (el : l ≡ get_or ws 0 0) (er : root ≡ get_or ws 1 0) (ef : free ≡ get_or ws 2 0) (es : start ≡ space_start_of (root_in ws)) where
  some : l ≡ 0 → ⊥
  some z = a.some (sym el ∙ z)

  pub cut_level : 1 ≤ l
  cut_level = omega (arith, level_up l some)

  few : l ≤ 11
  few = rw el (words-sound ws a.tree.sound).few

  known : Good ws start free (l - 1) root
  known = rw (es, el, er, ef) ((words-sound ws a.tree.sound).good a.some)

  leaves-here : leaves_at ws (l - 1) root ≡ tree_runs ws
  leaves-here = ap₂ (λ (x y : ℕ). leaves_at ws (x - 1) y) el er ∙ sym (runs-some ws a.some)

  left : free + 1100 ≤ space_end_of root
  left = rw (er, ef) a.room

  inside : space_end_of root ≤ length ws
  inside = omega (arith, end-le root, a.tree.long)

  pub cut-first : SplitInput ws start free (l - 1) root
  cut-first = record {
    room = record {
      headed = rw es (start-ge (root_in ws));
      begun = omega (arith, (good-bounds known).begun, (good-bounds known).ended);
      inside = first-room l free (space_end_of root) (length ws) cut_level few left inside;
    };
    small = omega (arith, few);
    good = known;
  }

  module _ (low : ℕ) {ws1 : List ℕ} {u : Part} (b : Splits ws ws1 start free (l - 1) (keep_below low (leaves_at ws (l - 1) root)) u) where
    known1 : Good ws1 start u.free (l - 1) root
    known1 = good-kept ws ws1 start free u.free b.kept known

    pub cut-second : SplitInput ws1 start u.free (l - 1) root
    cut-second = record {
      room = record {
        headed = rw es (start-ge (root_in ws));
        begun = omega (arith, (good-bounds known1).begun, (good-bounds known1).ended);
        inside =
            let n = b.kept.sized in
            second-room l free u.free u.levels (space_end_of root) (length ws1) cut_level few b.spent b.at_most left (omega (arith, inside, n));
      };
      small = omega (arith, few);
      good = known1;
    }

    pub cut-done : {ws2 : List ℕ} {o : Part} → Splits ws1 ws2 start u.free (l - 1) (keep_above high (leaves_at ws1 (l - 1) root)) o → Cuts ws ws2 start low high u o
    cut-done {ws2} {o} s =
        let under : Holds ws1 start u.free u.levels u.root (keep_below low (tree_runs ws)) =
        record { whole = b.whole; runs = b.leaves ∙ ap (keep_below low) leaves-here } in
        let over : Holds ws2 start o.free o.levels o.root (keep_above high (tree_runs ws)) =
        record { whole = s.whole; runs = s.leaves ∙ ap (keep_above high) (leaves_kept ws ws1 start free u.free b.kept known ∙ leaves-here) } in
        record {
          under = holds_kept s.kept under;
          over = over;
          kept = subst (λ (x : ℕ). Kept ws ws2 x o.free) ef (kept-kept ws ws1 ws2 free u.free o.free b.kept s.kept);
          spent = subst (λ (x : ℕ). o.free ≤ x + 704) ef (both-spent l free u.free o.free u.levels o.levels cut_level few b.spent b.at_most s.spent s.at_most);
          few_under = omega (arith, b.at_most, few, cut_level);
          few_over = omega (arith, s.at_most, few, cut_level);
        }
