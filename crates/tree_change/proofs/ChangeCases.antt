-- Cases of `insert_run` and `delete_run`: room is made first, which leaves the runs; an empty tree gets its first leaf.
use Rattle.model.proofs.Prelude.{ℕ, ◌≤◌, ◌+◌, ◌^◌, ◌≡◌, ◌∙◌, ap, refl, sym, ap₂, inl, true, List, [], ◌∷◌, ◌++◌, length, get_or, arith}
use Rattle.model.specs.Runs.{Run}
use Rattle.model.proofs.BoolLaws.{true→T}
use Rattle.tree_words.specs.TreeLayout.{levels_in, leaves_of, tree_runs}
use Rattle.tree_words.specs.Calls.{run_of, runs_with, runs_without, stored}
use Rattle.tree_words.specs.Nodes.{SoundTree, put_leaf_of}
use Rattle.tree_lookup.specs.Lookup.{join_low, join_high, merged, removed}
use Rattle.tree_compaction.specs.Compaction.{RootReady, RootWritten, HasSpace}
use Rattle.tree_change.specs.Changing.{Ready, InsertAsk, DeleteAsk, Rebuilt, Inserts, Deletes}
use Rattle.tree_words.proofs.NodePutLaws.{leaf-kept}
use Rattle.tree_words.proofs.MakeLaws.{leaf-good, leaf-leaves}
use Rattle.tree_words.proofs.ChildLaws.{good-whole, of_suc}
use Rattle.tree_words.proofs.KeepLaws.{below-nil, above-nil}
use Rattle.tree_check.proofs.HeadCases.{runs_none}
use Rattle.tree_check.proofs.TreeLaws.{runs-sound}
use Rattle.tree_lookup.proofs.MergedEndLaws.{low-nil, high-nil}
use Rattle.tree_lookup.proofs.MergeLaws.{merged-with}
use Rattle.tree_lookup.proofs.RemoveLaws.{removed-without, stored_low, stored-none}

-- ---- room

module _ {ws ws1 : List ℕ} (s : SoundTree ws) (r : HasSpace ws ws1) where
  pub space-tree : SoundTree ws1
  space-tree = record { long = omega (arith, s.long, r.sized); sound = r.sound }

  space-ready : {high : ℕ} → (levels_in ws ≡ 0 → ⊥) → high ≤ 2 ^ 62 → Ready ws1 high
  space-ready ne q = record { tree = space-tree; some = λ z. ne (sym r.levels_are ∙ z); room = r.room ne; most = q }

  after-room : {ws2 : List ℕ} {rs qs : List Run} → rs ≡ qs → Rebuilt ws1 ws2 rs → Rebuilt ws ws2 qs
  after-room e b = record {
    sized = b.sized ∙ r.sized;
    past = λ i q. b.past i q ∙ r.past i q;
    sound = b.sound;
    runs = b.runs ∙ e;
  }

-- ---- insertion

module _ {ws : List ℕ} {low high : ℕ} (a : Inserts ws low high) where
  -- the first run
  module _ {l : ℕ} (el : l ≡ get_or ws 0 0) (z : l ≡ 0) where
    pub first-room : 4 + 3 ≤ length ws
    first-room = omega (arith, a.tree.long)

    only : run_of low high ∷ [] ≡ runs_with (tree_runs ws) (run_of low high)
    only =
        sym (ap₂ (λ (x y : List Run). x ++ (record { low = join_low low []; high = join_high high [] } ∷ y)) (below-nil low) (above-nil high)
        ∙ (λ i. record { low = low-nil low a.least i; high = high-nil high i } ∷ []))
        ∙ merged-with low high a.least a.order [] tt a.most
        ∙ ap (λ (rs : List Run). runs_with rs (run_of low high)) (sym (runs_none ws (sym el ∙ z)))

    module _ {ws1 : List ℕ} (e : ws1 ≡ put_leaf_of ws 4 low high) where
      runs1 : leaves_of ws1 1 4 ≡ run_of low high ∷ []
      runs1 = rw e (of_suc (put_leaf_of ws 4 low high) 1 0 4 (omega arith) ∙ leaf-leaves ws 4 4 low high (omega arith) a.least a.order a.most first-room)

      pub first-ready : RootReady ws1 4 1 4 7
      first-ready = record {
        long = rw e (omega (arith, a.tree.long, (leaf-kept ws 4 low high).sized));
        space = inl (refl, omega arith);
        whole = rw e (good-whole (put_leaf_of ws 4 low high) 4 7 1 0 4 (omega arith) (leaf-good ws 4 4 low high (omega arith) a.least a.order a.most first-room));
        few = let n = ap length runs1 in omega (arith, n);
      }

      pub first_done : {ws2 : List ℕ} → RootWritten ws1 ws2 1 4 7 → Rebuilt ws ws2 (runs_with (tree_runs ws) (run_of low high))
      first_done p = record {
        sized = p.kept.sized ∙ ap length e ∙ (leaf-kept ws 4 low high).sized;
        past = λ i q. p.kept.behind i (omega arith) ∙ ap (λ (x : List ℕ). get_or x i 0) e ∙ (leaf-kept ws 4 low high).behind i (omega arith);
        sound = p.sound;
        runs = p.runs ∙ runs1 ∙ only;
      }

  -- into a tree
  module _ {l : ℕ} (el : l ≡ get_or ws 0 0) (ne : l ≡ 0 → ⊥) {ws1 : List ℕ} (r : HasSpace ws ws1) where
    with : merged low high (tree_runs ws1) ≡ runs_with (tree_runs ws) (run_of low high)
    with =
        merged-with low high a.least a.order (tree_runs ws1) (runs-sound ws1 r.sound) a.most
        ∙ ap (λ (rs : List Run). runs_with rs (run_of low high)) r.runs

    pub insert_asks : {first last : ℕ} → first ≡ join_low low (tree_runs ws1) → last ≡ join_high high (tree_runs ws1) → InsertAsk ws1 low high first last
    insert_asks p q = record {
      ready = space-ready a.tree r (λ z. ne (el ∙ z)) a.most;
      least = a.least;
      order = a.order;
      first_is = p;
      last_is = q;
      few = let n = ap length with in omega (arith, n, a.few);
    }

    pub insert_done : {ws2 : List ℕ} → Rebuilt ws1 ws2 (merged low high (tree_runs ws1)) → Rebuilt ws ws2 (runs_with (tree_runs ws) (run_of low high))
    insert_done b = after-room a.tree r with b

-- ---- deletion

module _ {ws : List ℕ} {low high : ℕ} (a : Deletes ws low high) {ws1 : List ℕ} (r : HasSpace ws ws1) where
  some : levels_in ws ≡ 0 → ⊥
  some z = stored-none (tree_runs ws) (run_of low high) (runs_none ws z) a.held

  held : stored (tree_runs ws1) (run_of low high) ≡ true
  held = ap (λ (rs : List Run). stored rs (run_of low high)) r.runs ∙ a.held

  pub delete_asks : DeleteAsk ws1 low high
  delete_asks = record {
    ready = space-ready a.tree r some (stored_low low high (2 ^ 62) 1 (tree_runs ws) (runs-sound ws a.tree.sound) (true→T (stored (tree_runs ws) (run_of low high)) a.held)).2;
    held = held;
  }

  pub delete_done : {ws2 : List ℕ} → Rebuilt ws1 ws2 (removed low high (tree_runs ws1)) → Rebuilt ws ws2 (runs_without (tree_runs ws) (run_of low high))
  delete_done b =
      after-room a.tree r
      (removed-without low high (tree_runs ws1) (runs-sound ws1 r.sound) held ∙ ap (λ (rs : List Run). runs_without rs (run_of low high)) r.runs) b
