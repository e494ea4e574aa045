-- Cases of `compact`: a tree of at most 1,024 runs takes at most 11,264 words in the other space, so 1,100 are free there.
use Rattle.model.proofs.Prelude.{ℕ, ◌≤◌, ◌<◌, ◌+◌, ◌-◌, ◌≡◌, ◌∙◌, ap, refl, sym, ap₂, ⊎_elim, inl, inr, ◌⊎◌, List, length, get_or, arith, lt-ltb}
use Rattle.model.proofs.Prelude.{le-ltb}
use Rattle.model.proofs.BoolLaws.{le_or_lt}
use Rattle.tree_words.specs.TreeLayout.{levels_in, root_in, free_in, space_start_of, space_end_of, leaves_at, tree_runs}
use Rattle.tree_words.specs.Nodes.{Good, SoundTree}
use Rattle.tree_copy.specs.Copying.{CopyAsk, Copies}
use Rattle.tree_compaction.specs.Compaction.{other_start_of, SpaceTo, RootReady, RootWritten, HasSpace}
use Rattle.tree_words.proofs.NodeLaws.{good-bounds}
use Rattle.tree_words.proofs.ChildLaws.{level_up, good-whole, of_some}
use Rattle.tree_check.proofs.HeadCases.{words-sound, runs-some, end-le}

-- the two sides: the root in the lower space, or in the upper one
abbrev Sides : ℕ → ℕ → ℕ → Type 0
Sides start to end = ((start ≡ 4) × (to ≡ 16384) × (end ≡ 16384)) ⊎ ((start ≡ 16384) × (to ≡ 4) × (end ≡ 32768))

sides : (root : ℕ) → Sides (space_start_of root) (other_start_of root) (space_end_of root)
sides root =
    ⊎_elim
    (λ (q : 16384 ≤ root). let w = le-ltb root 16384 q in inr (rw w refl, rw w refl, rw w refl))
    (λ (q : root < 16384). let w = lt-ltb root 16384 q in inl (rw w refl, rw w refl, rw w refl))
    (le_or_lt 16384 root)

module _ (ws : List ℕ) (s : SoundTree ws) where
  stays : ((levels_in ws ≡ 0 → ⊥) → free_in ws + 1100 ≤ space_end_of (root_in ws)) → HasSpace ws ws
  stays r = record { sized = refl; past = λ i q. refl; sound = s.sound; levels_are = refl; runs = refl; room = r }

  pub room-none : (l : ℕ) → l ≡ get_or ws 0 0 → l ≡ 0 → HasSpace ws ws
  room-none l el z = stays (λ n. absurd (n (sym el ∙ z)))

  module _ (l root free : ℕ) (el : l ≡ get_or ws 0 0) (some : l ≡ 0 → ⊥) (er : root ≡ get_or ws 1 0) (ef : free ≡ get_or ws 2 0) where
    some' : levels_in ws ≡ 0 → ⊥
    some' z = some (el ∙ z)

    ended : free ≤ space_end_of root
    ended = rw (er, ef) ((words-sound ws s.sound).ended some')

    pub room-long : free ≤ length ws
    room-long = omega (arith, ended, end-le root, s.long)

    pub room_fits : (end : ℕ) → end ≡ space_end_of root → free ≤ end
    room_fits end e = omega (arith, ended)

    pub room-enough : (end : ℕ) → end ≡ space_end_of root → 1100 ≤ end - free → HasSpace ws ws
    room-enough end e q = stays (λ n. omega (arith, ended, ef, e ∙ ap space_end_of er))

    known : Good ws (space_start_of root) free (l - 1) root
    known = rw (el, er, ef) ((words-sound ws s.sound).good some')

    leaves-here : leaves_at ws (l - 1) root ≡ tree_runs ws
    leaves-here = ap₂ (λ (x y : ℕ). leaves_at ws (x - 1) y) el er ∙ sym (runs-some ws some')

    few : length (leaves_at ws (l - 1) root) ≤ 1024
    few = rw (el, er) ((words-sound ws s.sound).runs some')

    module _ (start to : ℕ) (es : start ≡ space_start_of root) (et : to ≡ other_start_of root) where
      pub room-ask : CopyAsk ws start free to (l - 1) root
      room-ask = record {
        headed = ⊎_elim (λ (x : (space_start_of root ≡ 4) × (other_start_of root ≡ 16384) × (space_end_of root ≡ 16384)). omega (arith, x.1, et))
            (λ (x : (space_start_of root ≡ 16384) × (other_start_of root ≡ 4) × (space_end_of root ≡ 32768)). omega (arith, x.1, et)) (sides root);
        good = rw es known;
        apart = ⊎_elim (λ (x : (space_start_of root ≡ 4) × (other_start_of root ≡ 16384) × (space_end_of root ≡ 16384)). inl (omega (arith, x.1, x.2, et, ended)))
            (λ (x : (space_start_of root ≡ 16384) × (other_start_of root ≡ 4) × (space_end_of root ≡ 32768)). inr (omega (arith, x.0, x.1, es, et, few))) (sides root);
        inside = ⊎_elim (λ (x : (space_start_of root ≡ 4) × (other_start_of root ≡ 16384) × (space_end_of root ≡ 16384)). omega (arith, x.1, et, few, s.long))
            (λ (x : (space_start_of root ≡ 16384) × (other_start_of root ≡ 4) × (space_end_of root ≡ 32768)). omega (arith, x.1, et, few, s.long)) (sides root);
      }

      module _ (ws1 : List ℕ) (at f : ℕ) (c : Copies ws ws1 to (l - 1) root at f) where
        space : SpaceTo to f
        space =
            ⊎_elim
            (λ (x : (space_start_of root ≡ 4) × (other_start_of root ≡ 16384) × (space_end_of root ≡ 16384)). inr (et ∙ x.1, omega (arith, x.1, et, few, c.spent)))
            (λ (x : (space_start_of root ≡ 16384) × (other_start_of root ≡ 4) × (space_end_of root ≡ 32768)). inl (et ∙ x.1, omega (arith, x.1, et, few, c.spent)))
            (sides root)

        pub room-ready : RootReady ws1 to l at f
        room-ready =
            let n = ap length (of_some ws1 l at some ∙ c.leaves) in
            record {
              long = omega (arith, c.kept.sized, s.long);
              space = space;
              whole = good-whole ws1 to f l (l - 1) at (level_up l some) c.good;
              few = omega (arith, n, few);
            }

        left : f + 1100 ≤ space_end_of at
        left =
            let b = good-bounds c.good in
            ⊎_elim
            (λ (x : (space_start_of root ≡ 4) × (other_start_of root ≡ 16384) × (space_end_of root ≡ 16384)).
            let w = le-ltb at 16384 (omega (arith, x.1, et, b.begun)) in
            rw w (omega (arith, x.1, et, few, c.spent)))
            (λ (x : (space_start_of root ≡ 16384) × (other_start_of root ≡ 4) × (space_end_of root ≡ 32768)).
            let w = lt-ltb at 16384 (omega (arith, x.1, et, b.ended, few, c.spent)) in
            rw w (omega (arith, x.1, et, few, c.spent)))
            (sides root)

        top : f ≤ 32768
        top = omega (arith, left, end-le at)

        pub room-made : (ws2 : List ℕ) → RootWritten ws1 ws2 l at f → HasSpace ws ws2
        room-made ws2 p = record {
          sized = p.kept.sized ∙ c.kept.sized;
          past = λ i q. p.kept.behind i (omega arith) ∙ c.kept.behind i (omega (arith, top));
          sound = p.sound;
          levels_are = p.levels_are ∙ el;
          runs = p.runs ∙ of_some ws1 l at some ∙ c.leaves ∙ leaves-here;
          room = λ n. rw (p.root_is some, p.free_is some) left;
        }
