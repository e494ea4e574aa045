-- Steps of `append_each`: what is added so far and what is left, shifted, make the total.
use Rattle.model.proofs.Prelude.{ℕ, ◌≤◌, ◌<◌, ◌+◌, ◌-◌, ◌^◌, ◌≡◌, ◌∙◌, ap, refl, sym, subst⁻¹, List, [], ◌∷◌, length, arith}
use Rattle.model.specs.Runs.{Run}
use Rattle.run_lists.specs.RunLists.{RunWithin, Sound, add_run, shift_run, shift_runs, run_at, runs_in_words}
use Rattle.run_lists.specs.Answers.{Room, Adds}
use Rattle.run_lists.proofs.RunWordLaws.{runs-next, sound-at}
use Rattle.run_union.specs.Unions.{with_shifted}
use Rattle.run_union.proofs.Adding.{Adding, adding-start, adding-length, adding-done, adding-run, as_rest, part-full, part-more}
use Rattle.std.specs.Prelude.{Option, Some, None}

-- `n` runs stand at `start`, and the runs i..to are left
pub record Shifting (ws₀ : List ℕ) (from to start count cap offset : ℕ) (ws : List ℕ) (i n : ℕ) : Type 0 where
  pub room : Room ws₀ start count cap
  pub below : to ≤ start
  pub sound : Sound (2 ^ 62) (runs_in_words ws₀ from (to - from))
  pub begun : from ≤ i
  pub within : i ≤ to
  pub same_length_of : length ws ≡ length ws₀
  pub adding : Adding ws₀ ws start cap n (shift_runs offset (runs_in_words ws₀ i (to - i))) (with_shifted ws₀ from to start count offset)

pub shifting_start : (ws : List ℕ) (from to start count cap offset : ℕ) → Room ws start count cap → from ≤ to → to ≤ start
    → Sound (2 ^ 62) (runs_in_words ws from (to - from)) → Shifting ws from to start count cap offset ws from count
shifting_start ws from to start count cap offset room order below sound = record {
  room = room;
  below = below;
  sound = sound;
  begun = omega arith;
  within = order;
  same_length_of = refl;
  adding = adding-start ws start cap count (shift_runs offset (runs_in_words ws from (to - from))) room.fits;
}

module _ {ws₀ : List ℕ} {from to start count cap offset : ℕ} {ws : List ℕ} {i n : ℕ} (now : Shifting ws₀ from to start count cap offset ws i n) where
  rest : ℕ → List Run
  rest k = shift_runs offset (runs_in_words ws₀ k (to - k))

  total : List Run
  total = with_shifted ws₀ from to start count offset

  pub shifting_room : Room ws start n cap
  shifting_room = record { fits = now.adding.fits; inside = omega (arith, now.same_length_of, now.room.inside) }

  pub shifting_end : to ≤ i → Adds ws₀ ws start cap (with_shifted ws₀ from to start count offset) (Some n)
  unfolding total rest
  shifting_end h =
      let z : to - i ≡ 0 = omega arith in
      adding-done ws₀ ws start cap n total (as_rest (ap (λ (k : ℕ). shift_runs offset (runs_in_words ws₀ i k)) z) now.adding)

  module _ (lt : i < to) where
    same : run_at ws i ≡ run_at ws₀ i
    unfolding total rest
    same = adding-run ws₀ ws start cap n (rest i) total i now.adding (omega (arith, now.below))

    pub shifting_run : RunWithin (2 ^ 62) (run_at ws i)
    shifting_run = subst⁻¹ (RunWithin (2 ^ 62)) same (sound-at (2 ^ 62) ws₀ from to i now.sound now.begun lt)

    next : Adding ws₀ ws start cap n (shift_run offset (run_at ws i) ∷ rest (i + 1)) total
    unfolding total rest
    next = as_rest (ap (shift_runs offset) (runs-next ws₀ i to lt) ∙ ap (λ (r : Run). shift_run offset r ∷ rest (i + 1)) (sym same)) now.adding

    module _ {ws' : List ℕ} {q : (Option ℕ)} (adds : Adds ws ws' start cap (add_run (runs_in_words ws start n) (shift_run offset (run_at ws i))) q) where
      pub shifting_full : q ≡ None → Adds ws₀ ws' start cap (with_shifted ws₀ from to start count offset) None
      unfolding total
      shifting_full e = part-full ws₀ ws start cap n total ws' (shift_run offset (run_at ws i) ∷ []) (rest (i + 1)) next q e adds

      pub shifting_more : (c : ℕ) → q ≡ Some c → Shifting ws₀ from to start count cap offset ws' (i + 1) c
      unfolding total rest
      shifting_more c e =
          let more : Adding ws₀ ws' start cap c (rest (i + 1)) total =
          part-more ws₀ ws start cap n total ws' (shift_run offset (run_at ws i) ∷ []) (rest (i + 1)) next q c e now.room.inside adds in
          record {
            room = now.room;
            below = now.below;
            sound = now.sound;
            begun = omega (arith, now.begun);
            within = omega arith;
            same_length_of = adding-length ws₀ ws' start cap c total (rest (i + 1)) more;
            adding = more;
          }
