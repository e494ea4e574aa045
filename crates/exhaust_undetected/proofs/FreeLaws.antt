-- The first number that is in no run: where a walk along ascending runs finds it.
use Rattle.model.proofs.Prelude.{ℕ, ◌≤◌, ◌<◌, ◌+◌, ◌-◌, ◌*◌, ◌^◌, ◌≡◌, ◌∙◌, ap, refl, sym, subst, List, [], ◌∷◌, get_or, arith, rules}
use mir.Syntax.{w64}
use mir.Val.{Fits}
use Rattle.model.specs.Path.{rising, falling}
use Rattle.model.specs.Runs.{Run, in_runs, Separated}
use Rattle.model.specs.Store.{max_runs, run_count, store_runs}
use Rattle.model.proofs.RunLaws.{separated_weaken}
use Rattle.path_faults.specs.Answers.{model_edge}
use Rattle.path_faults.specs.declared.Edge as Code
use Rattle.path_faults.specs.declared.Edge.TheVariants as at
use Rattle.run_lists.specs.RunLists.{Sound, run_at, runs_in_words}
use Rattle.run_lists.proofs.MemberLaws.{member-in, inside-in, inside-lt, inside-gt, below}
use Rattle.run_lists.proofs.RunWordLaws.{runs-next, sound-at}
use Rattle.store_words.proofs.RunPlaceLaws.{places_of, places-rising, places-falling}
use Rattle.exhaust_undetected.specs.Searches.{FirstFree}

-- a run that the number is past does not matter
member-past : (r : Run) (rs : List Run) (k : ℕ) → r.high < k → in_runs (r ∷ rs) k ≡ in_runs rs k
member-past r rs k h = sym (member-in k (r ∷ rs)) ∙ rw (inside-gt k r h) (member-in k rs)

free-none : (x : ℕ) → FirstFree x [] x
unfolding in_runs
free-none x = record { not_before = omega arith; passed = λ k h l. absurd (omega arith); free = refl }

free-past : (r : Run) (rs : List Run) (x y : ℕ) → r.high < x → FirstFree y rs x → FirstFree y (r ∷ rs) x
free-past r rs x y h f = record {
  not_before = f.not_before;
  passed = λ k a b. member-past r rs k (omega arith) ∙ f.passed k a b;
  free = member-past r rs y (omega (arith, f.not_before)) ∙ f.free;
}

module _ (b n : ℕ) (r : Run) (rs : List Run) (x : ℕ) (s : Separated n b (r ∷ rs)) where
  -- in the run: the number after it, as runs are never adjacent
  free-inside : r.low ≤ x → x ≤ r.high → FirstFree (r.high + 1) (r ∷ rs) x
  free-inside h k = record {
    not_before = omega arith;
    passed = λ j a l. sym (member-in j (r ∷ rs)) ∙ rw (inside-in j r (omega arith) (omega arith)) refl;
    free =
        member-past r rs (r.high + 1) (omega arith)
        ∙ sym (member-in (r.high + 1) rs) ∙ below (r.high + 2) n (r.high + 1) rs s.3 (omega arith);
  }

  free-below : x < r.low → FirstFree x (r ∷ rs) x
  free-below h = record {
    not_before = omega arith;
    passed = λ j a l. absurd (omega arith);
    free = sym (member-in x (r ∷ rs)) ∙ rw (inside-lt x r h) (below (r.high + 2) n x rs s.3 (omega (arith, s.1)));
  }

-- The walk: what is first from the run at hand on is first of all runs
pub record Walked (ws : List ℕ) (from to x i : ℕ) : Type 0 where
  pub begun : from ≤ i
  pub within : i ≤ to
  pub sound : Sound (2 ^ 62) (runs_in_words ws i (to - i))
  pub found : (y : ℕ) → FirstFree y (runs_in_words ws i (to - i)) x → FirstFree y (runs_in_words ws from (to - from)) x

module _ (ws : List ℕ) (from to x : ℕ) where
  pub walk_begins : from ≤ to → Sound (2 ^ 62) (runs_in_words ws from (to - from)) → Walked ws from to x from
  walk_begins h s = record { begun = omega arith; within = h; sound = s; found = λ y f. f }

  module _ (i : ℕ) (w : Walked ws from to x i) where
    pub walk_ends : to ≤ i → FirstFree x (runs_in_words ws from (to - from)) x
    walk_ends h =
        let z : to - i ≡ 0 = omega arith in
        w.found x (subst (λ (n : ℕ). FirstFree x (runs_in_words ws i n) x) (sym z) (free-none x))

    module _ (lt : i < to) where
      here : runs_in_words ws i (to - i) ≡ run_at ws i ∷ runs_in_words ws (i + 1) (to - (i + 1))
      here = runs-next ws i to lt

      sound-here : Sound (2 ^ 62) (run_at ws i ∷ runs_in_words ws (i + 1) (to - (i + 1)))
      sound-here = subst (λ (rs : List Run). Sound (2 ^ 62) rs) here w.sound

      back : (y : ℕ) → FirstFree y (run_at ws i ∷ runs_in_words ws (i + 1) (to - (i + 1))) x → FirstFree y (runs_in_words ws from (to - from)) x
      back y f = w.found y (subst (λ (rs : List Run). FirstFree y rs x) (sym here) f)

      pub walk_inside : get_or ws (2 * i) 0 ≤ x → x ≤ get_or ws (2 * i + 1) 0 → FirstFree (get_or ws (2 * i + 1) 0 + 1) (runs_in_words ws from (to - from)) x
      walk_inside l h = back (get_or ws (2 * i + 1) 0 + 1) (free-inside 1 (2 ^ 62) (run_at ws i) (runs_in_words ws (i + 1) (to - (i + 1))) x sound-here l h)

      pub walk-below : x < get_or ws (2 * i) 0 → FirstFree x (runs_in_words ws from (to - from)) x
      walk-below l = back x (free-below 1 (2 ^ 62) (run_at ws i) (runs_in_words ws (i + 1) (to - (i + 1))) x sound-here l)

      pub walk-on : get_or ws (2 * i + 1) 0 < x → Walked ws from to x (i + 1)
      walk-on h = record {
        begun = omega (arith, w.begun);
        within = omega arith;
        sound = separated_weaken (2 ^ 62) (get_or ws (2 * i + 1) 0 + 2) 1 (runs_in_words ws (i + 1) (to - (i + 1))) (omega arith) sound-here.3;
        found = λ y f. back y (free-past (run_at ws i) (runs_in_words ws (i + 1) (to - (i + 1))) x y h f);
      }

      -- the number after a run
      pub walk-fits : Fits w64 (get_or ws (2 * i + 1) 0 + 1)
      walk-fits = omega (arith, (sound-at (2 ^ 62) ws i to i w.sound (omega arith) lt).most)

pub ruleset walk-cases = (walk_begins, walk_ends, walk_inside, walk-below, walk-on, walk-fits, rules)

-- the runs of an edge in a store's words
module _ (ws : List ℕ) (edge : Code.Edge) (from r : ℕ) where
  pub path-rising : edge ≡ at.Rising → FirstFree r (runs_in_words (places_of ws) 0 (run_count ws rising - 0)) from
      → FirstFree r (store_runs ws (model_edge edge)) from
  path-rising e f =
      subst (λ (rs : List Run). FirstFree r rs from) (places-rising ws ∙ sym (ap (λ (d : Code.Edge). store_runs ws (model_edge d)) e)) f

  pub path-falling : edge ≡ at.Falling → FirstFree r (runs_in_words (places_of ws) max_runs (max_runs + run_count ws falling - max_runs)) from
      → FirstFree r (store_runs ws (model_edge edge)) from
  path-falling e f =
      subst (λ (rs : List Run). FirstFree r rs from) (places-falling ws ∙ sym (ap (λ (d : Code.Edge). store_runs ws (model_edge d)) e)) f
