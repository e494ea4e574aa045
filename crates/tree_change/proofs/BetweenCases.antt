-- Cases of `put_between` and `take_between`: the parts are separated as the runs of the result are, and all of it takes under 1,100 words.
use Rattle.model.proofs.Prelude.{ℕ, ◌≤◌, ◌+◌, ◌-◌, ◌*◌, ◌^◌, ◌≡◌, ◌∙◌, sym, subst, List, [], ◌∷◌, ◌++◌, append_assoc, length, length-append, arith}
use mir.Val.{Fits}
use mir.Syntax.{w64}
use Rattle.model.specs.Runs.{Run, Separated}
use Rattle.run_lists.proofs.RunCutLaws.{sound-left}
use Rattle.tree_words.specs.TreeLayout.{root_in, free_in, space_start_of, tree_runs}
use Rattle.tree_words.specs.Nodes.{Kept, Sep, put_leaf_of}
use Rattle.tree_words.specs.KeptRuns.{keep_below, keep_above}
use Rattle.tree_lookup.specs.Lookup.{merged, removed}
use Rattle.tree_join.specs.Joining.{Room, Both, Joins}
use Rattle.tree_join.specs.declared.inner.Part.{Part}
use Rattle.tree_compaction.specs.Compaction.{RootReady, RootWritten}
use Rattle.tree_change.specs.Changing.{Holds, Ready, Cuts, InsertAsk, DeleteAsk, Rebuilt}
use Rattle.tree_words.proofs.NodeLaws.{good-bounds, kept-kept}
use Rattle.tree_words.proofs.NodePutLaws.{leaf-kept}
use Rattle.tree_words.proofs.MakeLaws.{leaf-good, leaf-leaves}
use Rattle.tree_words.proofs.SepLaws.{sep-right}
use Rattle.tree_words.proofs.ChildLaws.{good-whole, of_suc}
use Rattle.tree_check.proofs.HeadCases.{words-sound, start-ge, end-le}
use Rattle.tree_check.proofs.TreeLaws.{runs-sound}
use Rattle.tree_lookup.proofs.MergeLaws.{merged-sep}
use Rattle.tree_lookup.proofs.RemoveLaws.{removed-sep, removed-few, stored_low}
use Rattle.tree_lookup.proofs.LookupCases.{runs-few}
use Rattle.model.proofs.BoolLaws.{true→T}
use Rattle.tree_words.specs.Calls.{run_of, stored}
use Rattle.tree_change.proofs.HoldsLaws.{holds_kept, holds-both, holds-joined}
use Rattle.tree_change.proofs.RebuildLaws.{rebuilt-ready, rebuilt}

-- ---- words that are used

join_cost : (f u e n : ℕ) → u ≤ 11 → f ≤ e → e + 200 ≤ n → f + (16 * (u - 1) + 16 * (1 - u) + 8) ≤ n
join_cost f u e n p q r = omega arith

join_spent : (f u g : ℕ) → u ≤ 11 → g ≤ f + (16 * (u - 1) + 16 * (1 - u) + 8) → g ≤ f + 168
join_spent f u g p q = omega arith

last-cost : (f u o e n : ℕ) → u ≤ 12 → o ≤ 12 → f ≤ e → e + 200 ≤ n → f + (16 * (u - o) + 16 * (o - u) + 8) ≤ n
last-cost f u o e n p q r s = omega arith

last-spent : (f u o g : ℕ) → u ≤ 12 → o ≤ 12 → g ≤ f + (16 * (u - o) + 16 * (o - u) + 8) → g ≤ f + 200
last-spent f u o g p q r = omega arith

-- ---- what both start from

module _ {ws ws1 : List ℕ} {start low high : ℕ} {u o : Part} (a : Ready ws high) (es : start ≡ space_start_of (root_in ws)) (k : Cuts ws ws1 start low high u o) where
  has-space : free_in ws + 1100 ≤ length ws1
  has-space = omega (arith, a.room, end-le (root_in ws), a.tree.long, k.kept.sized)

  headed : 4 ≤ start
  headed = omega (arith, es, start-ge (root_in ws))

  begun : start ≤ free_in ws
  begun = let b = good-bounds ((words-sound ws a.tree.sound).good a.some) in omega (arith, es, b.begun, b.ended)

  sep : Sep (tree_runs ws)
  sep = runs-sound ws a.tree.sound

-- ---- with a run between

module _ {ws ws1 : List ℕ} {start low high first last : ℕ} {u o : Part} (a : InsertAsk ws low high first last)
    (es : start ≡ space_start_of (root_in ws)) (k : Cuts ws ws1 start low high u o) where
  abbrev rs : List Run
  rs = tree_runs ws

  abbrev mid : Run
  mid = record { low = first; high = last }

  all : keep_below low rs ++ (mid ∷ keep_above high rs) ≡ merged low high rs
  all = λ i. keep_below low rs ++ (record { low = a.first_is i; high = a.last_is i } ∷ keep_above high rs)

  sep-all : Sep (keep_below low rs ++ (mid ∷ keep_above high rs))
  sep-all = subst (λ (z : List Run). Sep z) (sym all) (merged-sep low high a.least a.order (2 ^ 62) 1 rs (sep a.ready es k) a.least a.ready.most)

  sep-mid : Separated (2 ^ 62) 1 (mid ∷ keep_above high rs)
  sep-mid = sep-right (2 ^ 62) 1 (keep_below low rs) (mid ∷ keep_above high rs) (omega arith) sep-all

  pub between-room : o.free + 3 ≤ length ws1
  between-room = omega (arith, k.spent, has-space a.ready es k)

  pub between-fits : Fits w64 (o.free + 3)
  between-fits = record { fits = omega (arith, k.spent, a.ready.room, end-le (root_in ws)) }

  pub between-order : first ≤ last
  between-order = sep-mid.1

  pub between-most : last ≤ 2 ^ 62
  between-most = sep-mid.2

  row : (keep_below low rs ++ (mid ∷ [])) ++ keep_above high rs ≡ keep_below low rs ++ (mid ∷ keep_above high rs)
  row = append_assoc (keep_below low rs) (mid ∷ []) (keep_above high rs)

  sep-front : Sep (keep_below low rs ++ (mid ∷ []))
  sep-front = sound-left 1 (2 ^ 62) (keep_below low rs ++ (mid ∷ [])) (keep_above high rs) (subst (λ (z : List Run). Sep z) (sym row) sep-all)

  module _ {ws2 : List ℕ} (e : ws2 ≡ put_leaf_of ws1 o.free first last) where
    kept1 : Kept ws1 ws2 o.free (o.free + 3)
    kept1 = subst (λ (z : List ℕ). Kept ws1 z o.free (o.free + 3)) (sym e) (leaf-kept ws1 o.free first last)

    begun1 : start ≤ o.free
    begun1 = omega (arith, begun a.ready es k, k.kept.grown)

    leaf-holds : Holds ws2 start (o.free + 3) 1 o.free (mid ∷ [])
    leaf-holds =
        subst (λ (z : List ℕ). Holds z start (o.free + 3) 1 o.free (mid ∷ [])) (sym e)
        (record {
          whole = good-whole (put_leaf_of ws1 o.free first last) start (o.free + 3) 1 0 o.free (omega arith)
              (leaf-good ws1 start o.free first last begun1 sep-mid.0 between-order between-most between-room);
          runs = of_suc (put_leaf_of ws1 o.free first last) 1 0 o.free (omega arith)
              ∙ leaf-leaves ws1 start o.free first last begun1 sep-mid.0 between-order between-most between-room;
        })

    under1 : Holds ws2 start (o.free + 3) u.levels u.root (keep_below low rs)
    under1 = holds_kept kept1 k.under

    pub front-room : Room ws2 start (o.free + 3) (16 * (u.levels - 1) + 16 * (1 - u.levels) + 8)
    front-room = record {
      headed = headed a.ready es k;
      begun = omega (arith, begun1);
      inside = join_cost (o.free + 3) u.levels (free_in ws + 707) (length ws2) k.few_under (omega (arith, k.spent)) (omega (arith, kept1.sized, has-space a.ready es k));
    }

    pub front-both : Both ws2 start (o.free + 3) u.levels u.root 1 o.free
    front-both = holds-both under1 leaf-holds (omega (arith, k.few_under)) (omega arith) sep-front

    module _ {ws3 : List ℕ} {f : Part} (j : Joins ws2 ws3 start (o.free + 3) u.levels u.root 1 o.free f) where
      front : Holds ws3 start f.free f.levels f.root (keep_below low rs ++ (mid ∷ []))
      front = holds-joined under1 leaf-holds j

      over1 : Holds ws3 start f.free o.levels o.root (keep_above high rs)
      over1 = holds_kept j.kept (holds_kept kept1 k.over)

      front-few : f.levels ≤ 12
      front-few = j.at_most 11 k.few_under (omega arith)

      spent3 : f.free ≤ free_in ws + 875
      spent3 = omega (arith, join_spent (o.free + 3) u.levels f.free k.few_under j.spent, k.spent)

      pub whole_room : Room ws3 start f.free (16 * (f.levels - o.levels) + 16 * (o.levels - f.levels) + 8)
      whole_room = record {
        headed = headed a.ready es k;
        begun = omega (arith, begun1, j.kept.grown);
        inside =
            last-cost f.free f.levels o.levels (free_in ws + 875) (length ws3) front-few (omega (arith, k.few_over)) spent3
            (omega (arith, j.kept.sized, kept1.sized, has-space a.ready es k));
      }

      pub whole-both : Both ws3 start f.free f.levels f.root o.levels o.root
      whole-both = holds-both front over1 (omega (arith, front-few)) (omega (arith, k.few_over)) (subst (λ (z : List Run). Sep z) (sym row) sep-all)

      module _ {ws4 : List ℕ} {t : Part} (i : Joins ws3 ws4 start f.free f.levels f.root o.levels o.root t) where
        whole : Holds ws4 start t.free t.levels t.root (merged low high rs)
        whole = subst (λ (z : List Run). Holds ws4 start t.free t.levels t.root z) (row ∙ all) (holds-joined front over1 i)

        kept4 : Kept ws ws4 (free_in ws) t.free
        kept4 =
            kept-kept ws ws3 ws4 (free_in ws) f.free t.free
            (kept-kept ws ws2 ws3 (free_in ws) (o.free + 3) f.free (kept-kept ws ws1 ws2 (free_in ws) o.free (o.free + 3) k.kept kept1) j.kept) i.kept

        spent4 : t.free ≤ free_in ws + 1100
        spent4 = omega (arith, last-spent f.free f.levels o.levels t.free front-few (omega (arith, k.few_over)) i.spent, spent3)

        pub whole_ready : RootReady ws4 start t.levels t.root t.free
        whole_ready = rebuilt-ready a.ready es kept4 spent4 a.few whole

        pub whole-done : {ws5 : List ℕ} → RootWritten ws4 ws5 t.levels t.root t.free → Rebuilt ws ws5 (merged low high rs)
        whole-done p = rebuilt a.ready es kept4 spent4 a.few whole p

-- ---- with nothing between

module _ {ws ws1 : List ℕ} {start low high : ℕ} {u o : Part} (a : DeleteAsk ws low high) (es : start ≡ space_start_of (root_in ws)) (k : Cuts ws ws1 start low high u o) where
  abbrev rs' : List Run
  rs' = tree_runs ws

  pub rest-room : Room ws1 start o.free (16 * (u.levels - o.levels) + 16 * (o.levels - u.levels) + 8)
  rest-room = record {
    headed = headed a.ready es k;
    begun = omega (arith, begun a.ready es k, k.kept.grown);
    inside =
        last-cost o.free u.levels o.levels (free_in ws + 704) (length ws1) (omega (arith, k.few_under)) (omega (arith, k.few_over)) k.spent
        (omega (arith, has-space a.ready es k));
  }

  pub rest_both : Both ws1 start o.free u.levels u.root o.levels o.root
  rest_both =
      holds-both k.under k.over (omega (arith, k.few_under)) (omega (arith, k.few_over)) (removed-sep low high rs' (sep a.ready es k) a.held)

  few' : length (removed low high rs') ≤ 1024
  few' =
      let b = stored_low low high (2 ^ 62) 1 rs' (sep a.ready es k) (true→T (stored rs' (run_of low high)) a.held) in
      let n = length-append (keep_below low rs') (keep_above high rs') in
      omega (arith, n, removed-few low high (2 ^ 62) 1 rs' b.1 (sep a.ready es k), runs-few ws a.ready.tree)

  module _ {ws2 : List ℕ} {t : Part} (j : Joins ws1 ws2 start o.free u.levels u.root o.levels o.root t) where
    kept2 : Kept ws ws2 (free_in ws) t.free
    kept2 = kept-kept ws ws1 ws2 (free_in ws) o.free t.free k.kept j.kept

    spent2 : t.free ≤ free_in ws + 1100
    spent2 = omega (arith, last-spent o.free u.levels o.levels t.free (omega (arith, k.few_under)) (omega (arith, k.few_over)) j.spent, k.spent)

    pub rest-ready : RootReady ws2 start t.levels t.root t.free
    rest-ready = rebuilt-ready a.ready es kept2 spent2 few' (holds-joined k.under k.over j)

    pub rest-done : {ws3 : List ℕ} → RootWritten ws2 ws3 t.levels t.root t.free → Rebuilt ws ws3 (removed low high rs')
    rest-done p = rebuilt a.ready es kept2 spent2 few' (holds-joined k.under k.over j) p
