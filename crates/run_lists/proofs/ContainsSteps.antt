-- Steps of `contains`: the number lies in the whole list exactly where it lies in the part that is left.
use Rattle.model.proofs.Prelude.{ℕ, ◌≤◌, ◌<◌, ◌+◌, ◌-◌, ◌*◌, ◌^◌, ◌/◌, ◌≡◌, ◌∙◌, ap, refl, sym, subst, true, false, List, [], ◌∷◌, ◌++◌, get_or, arith}
use Rattle.model.specs.Runs.{Run, in_runs}
use Rattle.run_lists.specs.RunLists.{Sound, run_at, runs_in_words}
use Rattle.run_lists.proofs.MemberLaws.{member, member-in}
use Rattle.run_lists.proofs.RunCutLaws.{runs-cut, sound-left, sound-right, cut_up, cut_down, cut-hit}

-- the runs lo..hi are left of the runs from..to
pub record Left (ws : List ℕ) (from to x lo hi : ℕ) : Type 0 where
  pub begun : from ≤ lo
  pub order : lo ≤ hi
  pub within : hi ≤ to
  pub sound : Sound (2 ^ 62) (runs_in_words ws lo (hi - lo))
  pub same : in_runs (runs_in_words ws lo (hi - lo)) x ≡ in_runs (runs_in_words ws from (to - from)) x

module _ (ws : List ℕ) (from to x : ℕ) where
  pub left-all : from ≤ to → Sound (2 ^ 62) (runs_in_words ws from (to - from)) → Left ws from to x from to
  left-all h u = record { begun = omega arith; order = h; within = omega arith; sound = u; same = refl }

  module _ (lo hi : ℕ) (left : Left ws from to x lo hi) where
    pub left-none : hi ≤ lo → false ≡ in_runs (runs_in_words ws from (to - from)) x
    left-none h =
        let z : hi - lo ≡ 0 = omega arith in
        member-in x [] ∙ ap (λ (n : ℕ). in_runs (runs_in_words ws lo n) x) (sym z) ∙ left.same

    -- cut at the run `mid`
    module _ (mid : ℕ) (a : lo ≤ mid) (b : mid < hi) where
      before : List Run
      before = runs_in_words ws lo (mid - lo)

      behind : List Run
      behind = runs_in_words ws (mid + 1) (hi - (mid + 1))

      cut : runs_in_words ws lo (hi - lo) ≡ before ++ run_at ws mid ∷ behind
      unfolding before behind
      cut = runs-cut ws lo mid hi a b

      sound : Sound (2 ^ 62) (before ++ run_at ws mid ∷ behind)
      sound = subst (λ (s : List Run). Sound (2 ^ 62) s) cut left.sound

      as_cut : in_runs (runs_in_words ws from (to - from)) x ≡ member x (before ++ run_at ws mid ∷ behind)
      as_cut = sym left.same ∙ ap (λ (s : List Run). in_runs s x) cut ∙ sym (member-in x (before ++ run_at ws mid ∷ behind))

      hit : get_or ws (2 * mid) 0 ≤ x → x ≤ get_or ws (2 * mid + 1) 0 → true ≡ in_runs (runs_in_words ws from (to - from)) x
      hit h k = sym (as_cut ∙ cut-hit 1 (2 ^ 62) x before (run_at ws mid) behind sound h k)

      up : get_or ws (2 * mid + 1) 0 < x → Left ws from to x (mid + 1) hi
      unfolding behind
      up h = record {
        begun = omega (arith, left.begun);
        order = omega arith;
        within = left.within;
        sound = sound-right 1 (2 ^ 62) before (run_at ws mid) behind sound;
        same = sym (as_cut ∙ cut_up 1 (2 ^ 62) x before (run_at ws mid) behind sound h ∙ member-in x behind);
      }

      down : x < get_or ws (2 * mid) 0 → Left ws from to x lo mid
      unfolding before
      down h = record {
        begun = left.begun;
        order = a;
        within = omega (arith, left.within);
        sound = sound-left 1 (2 ^ 62) before (run_at ws mid ∷ behind) sound;
        same = sym (as_cut ∙ cut_down 1 (2 ^ 62) x before (run_at ws mid) behind sound h ∙ member-in x before);
      }

    -- the code's middle
    module _ (lt : lo < hi) where
      pub left-hit : get_or ws (2 * (lo + (hi - lo) / 2)) 0 ≤ x → x ≤ get_or ws (2 * (lo + (hi - lo) / 2) + 1) 0 → true ≡ in_runs (runs_in_words ws from (to - from)) x
      left-hit h k = hit (lo + (hi - lo) / 2) (omega arith) (omega arith) h k

      pub left_up : get_or ws (2 * (lo + (hi - lo) / 2) + 1) 0 < x → Left ws from to x (lo + (hi - lo) / 2 + 1) hi
      left_up h = up (lo + (hi - lo) / 2) (omega arith) (omega arith) h

      pub left_down : x < get_or ws (2 * (lo + (hi - lo) / 2)) 0 → Left ws from to x lo (lo + (hi - lo) / 2)
      left_down h = down (lo + (hi - lo) / 2) (omega arith) (omega arith) h
