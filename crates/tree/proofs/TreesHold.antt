-- `TreesTrue` holds: what document 02 says of every tree.
use Rattle.model.proofs.Prelude.{ℕ, ◌≤◌, ◌-◌, suc, ◌^◌, ◌≡◌, ◌∙◌, ap, refl, sym, subst, true, List, length, arith, le-leb}
use Rattle.model.specs.Base.{Answer, refused, value}
use Rattle.model.specs.Runs.{Run}
use Rattle.model.specs.Store.{store_runs}
use Rattle.model.proofs.RunLaws.{separated→, →separated}
use Rattle.run_lists.proofs.MemberLaws.{sound-mono}
use Rattle.tree_words.specs.TreeShape.{Levels}
use Rattle.tree_words.specs.TreeLayout.{levels_in, root_in, leaves_at, tree_at, tree_runs, sound_words_of}
use Rattle.tree_words.specs.Calls.{insert_call, delete_call, Holding}
use Rattle.tree_check.proofs.HeadCases.{words-sound, runs-some}
use Rattle.tree_check.proofs.TreeLaws.{good-levels, levels-none, runs-sound, runs-few, runs-of_store}
use Rattle.tree.specs.TreesTrue.{Changes, no_more, insertion, deletion, Shaped, TreesTrue}
use Rattle.tree.proofs.FilledLaws.{emptied-holds}
use Rattle.tree.proofs.VisitedLaws.{visited-way, visited-leaf, visited-levels, visited-none, visited-few}

shape-holds : (ws : List ℕ) → sound_words_of ws ≡ true → (h : ℕ) → levels_in ws ≡ suc h → Shaped ws h
shape-holds ws s h l =
    let ne : levels_in ws ≡ 0 → ⊥ = λ y. omega arith in
    let down : levels_in ws - 1 ≡ h = omega arith in
    record {
      levels = subst (λ (x : ℕ). Levels (suc x) (tree_at ws x (root_in ws))) down (good-levels ws (levels_in ws - 1) (root_in ws) ((words-sound ws s).good ne));
      runs = sym (runs-some ws ne ∙ ap (λ (x : ℕ). leaves_at ws x (root_in ws)) down);
    }

-- ---- changes leave a tree

kept : (call : Answer (List Run)) {ws ws' : List ℕ} → Holding call ws ws' → sound_words_of ws ≡ true → sound_words_of ws' ≡ true
kept (refused n) h s = ap sound_words_of (h.refusal n refl) ∙ s
kept (value rs) h s = h.sound rs refl

stays-tree : {ws ws' : List ℕ} → Changes ws ws' → sound_words_of ws ≡ true → sound_words_of ws' ≡ true
stays-tree no_more s = s
stays-tree (insertion {ws = ws} r h rest) s = stays-tree rest (kept (insert_call ws r) h s)
stays-tree (deletion {ws = ws} r h rest) s = stays-tree rest (kept (delete_call ws r) h s)

-- ---- an insertion is answered by the runs

by_runs : (ws ws' : List ℕ) (r : Run) → 32768 ≤ length ws → 32768 ≤ length ws' → sound_words_of ws ≡ true → sound_words_of ws' ≡ true
    → tree_runs ws ≡ tree_runs ws' → insert_call ws r ≡ insert_call ws' r
unfolding insert_call
by_runs ws ws' r p q s t e =
    let u = le-leb 32768 (length ws) p in
    let v = le-leb 32768 (length ws') q in
    rw (u, v, s, t, e) refl

pub trees-true : TreesTrue
trees-true =
    record {
      shape = shape-holds;
      empty = λ ws s l. levels-none ws s l;
      apart = λ ws s. →separated (2 ^ 62) 1 (tree_runs ws) (runs-sound ws s);
      few = λ ws s. runs-few ws s;
      same_faults = λ ws store e paths s q t h. runs-of_store ws s (store_runs store e) (sound-mono 1 paths (2 ^ 62) (store_runs store e) q (separated→ paths 1 (store_runs store e) t)) h;
      visited = λ ws k a e. record {
        way = visited-way ws k a e;
        leaf = visited-leaf ws k a e;
        levels = visited-levels ws k a e;
        none = visited-none ws k a e;
        most = λ w p q. visited-few ws k a e w q;
      };
      stays = λ ws ws' p c. stays-tree c (emptied-holds ws p).sound;
      by_runs_of = by_runs;
    }
