-- Cases of the functions that find runs in sound words.
use Rattle.model.proofs.Prelude.{ℕ, ◌≤◌, ◌<◌, ◌+◌, ◌-◌, ◌^◌, ◌≡◌, ◌∙◌, ap, refl, sym, subst, ap₂, ⊎_elim, inl, inr, ◌⊎◌, false, not, List, length}
use Rattle.model.proofs.Prelude.{get_or, leb, eqb, arith, le-leb, lt-leb, ne_eqb, eq-eqb}
use Rattle.model.proofs.BoolLaws.{le_or_lt, equal_or_not}
use Rattle.tree_words.specs.TreeLayout.{levels_in, root_in, free_in, low_at_of, high_at_of, leaves_at, run_in_of, tree_runs, space_start_of}
use Rattle.tree_words.specs.Calls.{Found, none, first_run_of, overlaps, adjacent, stored, runs_with, run_of}
use Rattle.tree_words.specs.Nodes.{SoundTree, Good, Sep}
use Rattle.tree_lookup.specs.Lookup.{FoundAt, low_end, high_end, join_low, join_high}
use Rattle.tree_descent.specs.Descent.{Reaching, Starting, reaches, begins, last_run}
use Rattle.tree_words.proofs.KeepLaws.{good-within}
use Rattle.tree_descent.proofs.FoundLaws.{first-nil, last-nil, reach_no, begin_no}
use Rattle.tree_check.proofs.HeadCases.{words-sound, runs_none, runs-some, start-ge, end-le}
use Rattle.tree_check.proofs.TreeLaws.{runs-sound}
use Rattle.tree_lookup.proofs.SearchLaws.{Begun, Behind, Next, NotNext, over-found, over-not, next-found, next-not, Is, IsNot, stored-yes, stored_no}
use Rattle.tree_lookup.proofs.MergedEndLaws.{low-none, low-less, low-more, high-none, high-more, high-less}
use Rattle.tree_lookup.proofs.RemoveLaws.{Touch, Far, with-touch, with-far}

-- ---- from the root

module _ (ws : List ℕ) where
  not_found : (f : Found) → f ≡ none → FoundAt ws f 0
  not_found f e = record { absent = λ z. e; present = λ n. absurd (n refl); inside = λ n. absurd (n refl) }

  pub found_inside : (f : Found) (r : ℕ) → FoundAt ws f r → (r ≡ 0 → ⊥) → r + 3 ≤ length ws
  found_inside f r a n = a.inside n

  module _ (s : SoundTree ws) (l : ℕ) (el : l ≡ get_or ws 0 0) where
    pub reach_empty : (x : ℕ) → l ≡ 0 → FoundAt ws (first_run_of (reaches x) (tree_runs ws)) 0
    reach_empty x z = not_found (first_run_of (reaches x) (tree_runs ws)) (ap (first_run_of (reaches x)) (runs_none ws (sym el ∙ z)) ∙ first-nil (reaches x))

    pub start-empty : (x : ℕ) → l ≡ 0 → FoundAt ws (last_run (begins x) (tree_runs ws)) 0
    start-empty x z = not_found (last_run (begins x) (tree_runs ws)) (ap (last_run (begins x)) (runs_none ws (sym el ∙ z)) ∙ last-nil (begins x))

    pub count-empty : l ≡ 0 → 0 ≡ length (tree_runs ws)
    count-empty z = sym (ap length (runs_none ws (sym el ∙ z)))

    module _ (ne : l ≡ 0 → ⊥) (root : ℕ) (er : root ≡ get_or ws 1 0) where
      ne' : levels_in ws ≡ 0 → ⊥
      ne' y = ne (el ∙ y)

      known : Good ws (space_start_of (root_in ws)) (free_in ws) (levels_in ws - 1) (root_in ws)
      known = (words-sound ws s.sound).good ne'

      runs_here : leaves_at ws (l - 1) root ≡ tree_runs ws
      runs_here = ap₂ (λ (x y : ℕ). leaves_at ws (x - 1) y) el er ∙ sym (runs-some ws ne')

      pub reach_over : (x h : ℕ) → h ≡ high_at_of ws root → h < x → FoundAt ws (first_run_of (reaches x) (tree_runs ws)) 0
      reach_over x h eh q =
          not_found (first_run_of (reaches x) (tree_runs ws))
          (ap (first_run_of (reaches x)) (runs-some ws ne')
          ∙ reach_no x (low_at_of ws (root_in ws)) (high_at_of ws (root_in ws)) (leaves_at ws (levels_in ws - 1) (root_in ws)) (good-within known) (omega (arith, eh ∙ ap (high_at_of ws) er)))

      pub start_under : (x h : ℕ) → h ≡ low_at_of ws root → x < h → FoundAt ws (last_run (begins x) (tree_runs ws)) 0
      start_under x h eh q =
          not_found (last_run (begins x) (tree_runs ws))
          (ap (last_run (begins x)) (runs-some ws ne')
          ∙ begin_no x (low_at_of ws (root_in ws)) (high_at_of ws (root_in ws)) (leaves_at ws (levels_in ws - 1) (root_in ws)) (good-within known) (omega (arith, eh ∙ ap (low_at_of ws) er)))

      pub reach_ask : (x h : ℕ) → h ≡ high_at_of ws root → x ≤ h → x ≤ high_at_of ws root
      reach_ask x h eh q = omega arith

      pub start-ask : (x h : ℕ) → h ≡ low_at_of ws root → h ≤ x → low_at_of ws root ≤ x
      start-ask x h eh q = omega arith

      pub count-root : (n : ℕ) → n ≡ length (leaves_at ws (l - 1) root) → n ≡ length (tree_runs ws)
      count-root n e = e ∙ ap length runs_here

      module _ (start free : ℕ) (es : start ≡ space_start_of root) (ef : free ≡ get_or ws 2 0) (x r : ℕ) where
        begun : start ≤ r → r ≡ 0 → ⊥
        begun q z = omega (arith, start-ge root)

        ending : r + 3 ≤ free → r + 3 ≤ length ws
        ending q = omega (arith, (words-sound ws s.sound).ended ne', end-le (root_in ws), s.long)

        pub reach_there : Reaching ws start free (l - 1) root x r → FoundAt ws (first_run_of (reaches x) (tree_runs ws)) r
        reach_there g = record {
          absent = λ z. absurd (begun g.begun z);
          present = λ n. ap (first_run_of (reaches x)) (sym runs_here) ∙ g.first;
          inside = λ n. ending g.ended;
        }

        pub start-there : Starting ws start free (l - 1) root x r → FoundAt ws (last_run (begins x) (tree_runs ws)) r
        start-there g = record {
          absent = λ z. absurd (begun g.begun z);
          present = λ n. ap (last_run (begins x)) (sym runs_here) ∙ g.last;
          inside = λ n. ending g.ended;
        }

-- ---- on what was found

pub runs-few : (ws : List ℕ) → SoundTree ws → length (tree_runs ws) ≤ 1024
runs-few ws s =
    ⊎_elim
    (λ (z : levels_in ws ≤ 0). let e = ap length (runs_none ws (omega arith)) in omega (arith, e))
    (λ (z : 0 < levels_in ws).
    let ne : levels_in ws ≡ 0 → ⊥ = λ y. omega arith in
    let e = ap length (runs-some ws ne) in
    omega (arith, e, (words-sound ws s.sound).runs ne))
    (le_or_lt (levels_in ws) 0)

module _ (ws : List ℕ) (s : SoundTree ws) where
  sep : Sep (tree_runs ws)
  sep = runs-sound ws s.sound

  module _ (low high r : ℕ) (order : low ≤ high) (a : FoundAt ws (first_run_of (reaches low) (tree_runs ws)) r) where
    pub over_zero : r ≡ 0 → FoundAt ws (first_run_of (overlaps (run_of low high)) (tree_runs ws)) 0
    over_zero z = not_found ws (first_run_of (overlaps (run_of low high)) (tree_runs ws)) (over-not low high order (2 ^ 62) 1 (tree_runs ws) sep (subst (Behind high) (sym (a.absent z)) tt))

    module _ (some : r ≡ 0 → ⊥) (k : ℕ) (ek : k ≡ low_at_of ws r) where
      pub over-behind : high < k → FoundAt ws (first_run_of (overlaps (run_of low high)) (tree_runs ws)) 0
      over-behind q =
          let b : high < low_at_of ws r = omega arith in
          not_found ws (first_run_of (overlaps (run_of low high)) (tree_runs ws)) (over-not low high order (2 ^ 62) 1 (tree_runs ws) sep (subst (Behind high) (sym (a.present some)) b))

      pub over-here : k ≤ high → FoundAt ws (first_run_of (overlaps (run_of low high)) (tree_runs ws)) r
      over-here q =
          let b : low_at_of ws r ≤ high = omega arith in
          record {
            absent = λ z. absurd (some z);
            present = λ n. over-found low high order (2 ^ 62) 1 (tree_runs ws) sep (subst (Begun high) (sym (a.present some)) b) ∙ a.present some;
            inside = a.inside;
          }

  module _ (low high r : ℕ) (least : 1 ≤ low) (order : low ≤ high) (a : FoundAt ws (first_run_of (reaches (low - 1)) (tree_runs ws)) r) where
    pub near-zero : r ≡ 0 → FoundAt ws (first_run_of (adjacent (run_of low high)) (tree_runs ws)) 0
    near-zero z = not_found ws (first_run_of (adjacent (run_of low high)) (tree_runs ws)) (next-not low high order least (2 ^ 62) 1 (tree_runs ws) sep (subst (NotNext low high) (sym (a.absent z)) tt))

    module _ (some : r ≡ 0 → ⊥) where
      near : first_run_of (overlaps (run_of low high)) (tree_runs ws) ≡ none → (high_at_of ws r < low) ⊎ (low_at_of ws r ≤ high + 1)
          → FoundAt ws (first_run_of (adjacent (run_of low high)) (tree_runs ws)) r
      near o b = record {
        absent = λ z. absurd (some z);
        present = λ n. next-found low high order least (2 ^ 62) 1 (tree_runs ws) sep o (subst (Next low high) (sym (a.present some)) b) ∙ a.present some;
        inside = a.inside;
      }

      module _ (u : ℕ) (eu : u ≡ high_at_of ws r) where
        pub near-below : first_run_of (overlaps (run_of low high)) (tree_runs ws) ≡ none → u < low → FoundAt ws (first_run_of (adjacent (run_of low high)) (tree_runs ws)) r
        near-below o q = near o (inl (omega arith))

        module _ (q : low ≤ u) (k : ℕ) (ek : k ≡ low_at_of ws r) where
          pub near-far : high + 1 < k → FoundAt ws (first_run_of (adjacent (run_of low high)) (tree_runs ws)) 0
          near-far p =
              let b1 : low ≤ high_at_of ws r = omega arith in
              let b2 : high + 1 < low_at_of ws r = omega arith in
              not_found ws (first_run_of (adjacent (run_of low high)) (tree_runs ws)) (next-not low high order least (2 ^ 62) 1 (tree_runs ws) sep
              (subst (NotNext low high) (sym (a.present some)) (b1, b2)))

          pub near-above : first_run_of (overlaps (run_of low high)) (tree_runs ws) ≡ none → k ≤ high + 1 → FoundAt ws (first_run_of (adjacent (run_of low high)) (tree_runs ws)) r
          near-above o p = near o (inr (omega arith))

    -- ---- whether it is full

    pub full-touch : (r ≡ 0 → ⊥) → high ≤ 2 ^ 62 → (k : ℕ) → k ≡ low_at_of ws r → k ≤ high + 1 → false ≡ not (leb (length (runs_with (tree_runs ws) (run_of low high))) 1024)
    full-touch some most k ek q =
        let b : low_at_of ws r ≤ high + 1 = omega arith in
        let w = le-leb (length (runs_with (tree_runs ws) (run_of low high))) 1024 (omega (
          arith,
          runs-few ws s,
          with-touch low high least order (tree_runs ws) sep most
              (subst (Touch high) (sym (a.present some)) b),
        )) in
        rw w refl

    far : high ≤ 2 ^ 62 → Far high (first_run_of (reaches (low - 1)) (tree_runs ws)) → (n : ℕ) → n ≡ length (tree_runs ws) → leb 1024 n ≡ not
        (leb (length (runs_with (tree_runs ws) (run_of low high))) 1024)
    far most t n en =
        let e = with-far low high least order (tree_runs ws) sep most t in
        ⊎_elim
        (λ (q : 1024 ≤ n). let w = lt-leb (length (runs_with (tree_runs ws) (run_of low high))) 1024 (omega arith) in le-leb 1024 n q ∙ sym (ap not w))
        (λ (q : n < 1024). let w = le-leb (length (runs_with (tree_runs ws) (run_of low high))) 1024 (omega arith) in lt-leb 1024 n q ∙ sym (ap not w))
        (le_or_lt 1024 n)

    module _ (most : high ≤ 2 ^ 62) (n : ℕ) (en : n ≡ length (tree_runs ws)) where
      pub full-none : r ≡ 0 → leb 1024 n ≡ not (leb (length (runs_with (tree_runs ws) (run_of low high))) 1024)
      full-none z = far most (subst (Far high) (sym (a.absent z)) tt) n en

      pub full-far : (r ≡ 0 → ⊥) → (k : ℕ) → k ≡ low_at_of ws r → high + 1 < k → leb 1024 n ≡ not (leb (length (runs_with (tree_runs ws) (run_of low high))) 1024)
      full-far some k ek q = let b : high + 1 < low_at_of ws r = omega arith in far most (subst (Far high) (sym (a.present some)) b) n en

  -- ---- the ends of the merged run

  module _ (low r : ℕ) (a : FoundAt ws (first_run_of (reaches (low - 1)) (tree_runs ws)) r) where
    pub low-zero : r ≡ 0 → low ≡ join_low low (tree_runs ws)
    low-zero z = sym (ap (low_end low) (a.absent z) ∙ low-none low)

    module _ (some : r ≡ 0 → ⊥) (k : ℕ) (ek : k ≡ low_at_of ws r) where
      pub low-it : k < low → k ≡ join_low low (tree_runs ws)
      low-it q = sym (ap (low_end low) (a.present some) ∙ low-less low (run_in_of ws r) (omega arith) ∙ sym ek)

      pub low-own : low ≤ k → low ≡ join_low low (tree_runs ws)
      low-own q = sym (ap (low_end low) (a.present some) ∙ low-more low (run_in_of ws r) (omega arith))

  module _ (high r : ℕ) (a : FoundAt ws (last_run (begins (high + 1)) (tree_runs ws)) r) where
    pub high_zero : r ≡ 0 → high ≡ join_high high (tree_runs ws)
    high_zero z = sym (ap (high_end high) (a.absent z) ∙ high-none high)

    module _ (some : r ≡ 0 → ⊥) (k : ℕ) (ek : k ≡ high_at_of ws r) where
      pub high-it : high < k → k ≡ join_high high (tree_runs ws)
      high-it q = sym (ap (high_end high) (a.present some) ∙ high-more high (run_in_of ws r) (omega arith) ∙ sym ek)

      pub high-own : k ≤ high → high ≡ join_high high (tree_runs ws)
      high-own q = sym (ap (high_end high) (a.present some) ∙ high-less high (run_in_of ws r) (omega arith))

  -- ---- whether a run is stored

  module _ (low high r : ℕ) (a : FoundAt ws (first_run_of (reaches high) (tree_runs ws)) r) where
    no : IsNot low high (first_run_of (reaches high) (tree_runs ws)) → false ≡ stored (tree_runs ws) (run_of low high)
    no t = sym (stored_no low high (2 ^ 62) 1 (tree_runs ws) sep t)

    pub stored-zero : r ≡ 0 → false ≡ stored (tree_runs ws) (run_of low high)
    stored-zero z = no (subst (IsNot low high) (sym (a.absent z)) tt)

    module _ (some : r ≡ 0 → ⊥) (k : ℕ) (ek : k ≡ low_at_of ws r) where
      pub stored_other : (k ≡ low → ⊥) → false ≡ stored (tree_runs ws) (run_of low high)
      stored_other q = no (subst (IsNot low high) (sym (a.present some)) (inl (λ e. q (ek ∙ e))))

      pub stored_same : k ≡ low → (u : ℕ) → u ≡ high_at_of ws r → eqb u high ≡ stored (tree_runs ws) (run_of low high)
      stored_same q u eu =
          ⊎_elim
          (λ (e : u ≡ high).
          eq-eqb u high e ∙ sym (stored-yes low high (2 ^ 62) 1 (tree_runs ws) sep (subst (Is low high) (sym (a.present some)) (sym ek ∙ q, sym eu ∙ e))))
          (λ (e : u ≡ high → ⊥). ne_eqb u high e ∙ no (subst (IsNot low high) (sym (a.present some)) (inr (λ y. e (eu ∙ y)))))
          (equal_or_not u high)
