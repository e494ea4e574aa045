-- Cases of `put_head` and `put_tree`: a sound tree in the words, with its levels, root and free word in the head, makes the words sound.
use Rattle.model.proofs.Prelude.{ℕ, ◌≤◌, ◌<◌, ◌+◌, ◌-◌, ◌≡◌, ◌∙◌, ap, sym, ⊎_elim, ◌⊎◌, List, length, get_or, set, length-set, get_or-set_same}
use Rattle.model.proofs.Prelude.{get_or-set_other, arith, lt-ltb, le-ltb}
use Rattle.tree_words.specs.TreeLayout.{levels_in, root_in, free_in, space_start_of, space_end_of, leaves_at, leaves_of, tree_runs}
use Rattle.tree_words.specs.Nodes.{Good, Kept}
use Rattle.tree_compaction.specs.Compaction.{put_head_of, SpaceTo, RootReady, RootWritten}
use Rattle.tree_words.proofs.NodeLaws.{good-bounds, good-same, leaves-same}
use Rattle.tree_words.proofs.ChildLaws.{level_up, whole-good, of_some, of_none}
use Rattle.tree_check.proofs.HeadCases.{words-empty, words-good, runs_none, runs-some}
use Rattle.tree_check.proofs.TreeLaws.{height_ten}

-- ---- the head

module _ (ws : List ℕ) (l r f : ℕ) where
  pub head-kept : Kept ws (put_head_of ws l r f) 0 3
  unfolding put_head_of
  head-kept = record {
    sized = simp length-set;
    grown = omega arith;
    before = λ i q. absurd (omega arith);
    behind = λ i q.
        get_or-set_other (set (set ws 0 l) 1 r) 2 i f 0 (omega arith)
        ∙ get_or-set_other (set ws 0 l) 1 i r 0 (omega arith)
        ∙ get_or-set_other ws 0 i l 0 (omega arith);
  }

  module _ (room : 3 ≤ length ws) where
    pub head-levels : levels_in (put_head_of ws l r f) ≡ l
    unfolding put_head_of
    head-levels =
        get_or-set_other (set (set ws 0 l) 1 r) 2 0 f 0 (omega arith)
        ∙ get_or-set_other (set ws 0 l) 1 0 r 0 (omega arith)
        ∙ get_or-set_same ws 0 l 0 (omega arith)

    pub head-root : root_in (put_head_of ws l r f) ≡ r
    unfolding put_head_of
    head-root = get_or-set_other (set (set ws 0 l) 1 r) 2 1 f 0 (omega arith) ∙ get_or-set_same (set ws 0 l) 1 r 0 (simp length-set (omega arith))

    pub head-free : free_in (put_head_of ws l r f) ≡ f
    unfolding put_head_of
    head-free = get_or-set_same (set (set ws 0 l) 1 r) 2 f 0 (simp length-set (omega arith))

-- ---- the space of a root

pub space-start : (start free root : ℕ) → SpaceTo start free → start ≤ root → root + 3 ≤ free → space_start_of root ≡ start
space-start start free root s p q =
    ⊎_elim
    (λ (x : (start ≡ 4) × (free ≤ 16384)). let w = lt-ltb root 16384 (omega (arith, x.1)) in rw w (sym x.0))
    (λ (x : (start ≡ 16384) × (free ≤ 32768)). let w = le-ltb root 16384 (omega (arith, x.0)) in rw w (sym x.0))
    s

pub space-end : (start free root : ℕ) → SpaceTo start free → start ≤ root → root + 3 ≤ free → free ≤ space_end_of root
space-end start free root s p q =
    ⊎_elim
    (λ (x : (start ≡ 4) × (free ≤ 16384)). let w = lt-ltb root 16384 (omega (arith, x.1)) in rw w x.1)
    (λ (x : (start ≡ 16384) × (free ≤ 32768)). let w = le-ltb root 16384 (omega (arith, x.0)) in rw w x.1)
    s

pub space-high : (start free : ℕ) → SpaceTo start free → (4 ≤ start) × (free ≤ 32768)
space-high start free s =
    ⊎_elim (λ (x : (start ≡ 4) × (free ≤ 16384)). (omega (arith, x.0), omega (arith, x.1))) (λ (x : (start ≡ 16384) × (free ≤ 32768)). (omega (arith, x.0), x.1)) s

-- ---- the tree

module _ (ws : List ℕ) (start levels root free : ℕ) (p : RootReady ws start levels root free) where
  long : 3 ≤ length ws
  long = omega (arith, p.long)

  pub put-tree-room : 3 ≤ length ws
  put-tree-room = long

  pub put-tree-none : levels ≡ 0 → (ws' : List ℕ) → ws' ≡ put_head_of ws 0 0 0 → RootWritten ws ws' levels root free
  put-tree-none z ws' e =
      rw e
      (record {
        kept = head-kept ws 0 0 0;
        sound = words-empty (put_head_of ws 0 0 0) (head-levels ws 0 0 0 long) (head-root ws 0 0 0 long) (head-free ws 0 0 0 long);
        levels_are = head-levels ws 0 0 0 long ∙ sym z;
        runs = runs_none (put_head_of ws 0 0 0) (head-levels ws 0 0 0 long) ∙ sym (of_none ws levels root z);
        root_is = λ n. absurd (n z);
        free_is = λ n. absurd (n z);
      })

  module _ (some : levels ≡ 0 → ⊥) where
    abbrev then : List ℕ
    then = put_head_of ws levels root free

    good : Good ws start free (levels - 1) root
    good = whole-good ws start free levels root some p.whole

    same : (i : ℕ) → start ≤ i → i < free → get_or then i 0 ≡ get_or ws i 0
    same i q r = (head-kept ws levels root free).behind i (omega (arith, (space-high start free p.space).0))

    few : length (leaves_at ws (levels - 1) root) ≤ 1024
    few = let e = ap length (of_some ws levels root some) in omega (arith, e, p.few)

    good-then : Good then (space_start_of (root_in then)) (free_in then) (levels - 1) (root_in then)
    good-then =
        let r = head-root ws levels root free long in
        let f = head-free ws levels root free long in
        let b = good-bounds good in
        let s = space-start start free root p.space b.begun b.ended in
        rw (r, f, s) (good-same ws then start free same good)

    leaves-then : leaves_at then (levels - 1) (root_in then) ≡ leaves_at ws (levels - 1) root
    leaves-then = ap (leaves_at then (levels - 1)) (head-root ws levels root free long) ∙ leaves-same ws then start free same good

    fits-then : free_in then ≤ space_end_of (root_in then)
    fits-then =
        let r = head-root ws levels root free long in
        let f = head-free ws levels root free long in
        let b = good-bounds good in
        rw (r, f) (space-end start free root p.space b.begun b.ended)

    some_then : levels_in then ≡ 0 → ⊥
    some_then z = some (sym (head-levels ws levels root free long) ∙ z)

    runs_then : tree_runs then ≡ leaves_of ws levels root
    runs_then =
        runs-some then some_then
        ∙ ap (λ (x : ℕ). leaves_at then (x - 1) (root_in then)) (head-levels ws levels root free long)
        ∙ leaves-then
        ∙ sym (of_some ws levels root some)

    pub put-tree-some : (ws' : List ℕ) → ws' ≡ put_head_of ws levels root free → RootWritten ws ws' levels root free
    put-tree-some ws' e =
        let n = ap length leaves-then in
        rw e
        (record {
          kept = head-kept ws levels root free;
          sound =
              words-good then (levels - 1) (head-levels ws levels root free long ∙ level_up levels some) (omega (arith, height_ten good few)) fits-then good-then
              (omega (arith, n, few));
          levels_are = head-levels ws levels root free long;
          runs = runs_then;
          root_is = λ y. head-root ws levels root free long;
          free_is = λ y. head-free ws levels root free long;
        })
