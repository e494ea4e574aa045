-- Steps of `place_shifted`: the words are those with the runs placed so far written.
use Rattle.model.proofs.Prelude.{ℕ, ◌≤◌, ◌<◌, ◌+◌, ◌-◌, ◌*◌, suc, ◌^◌, ◌≡◌, ◌∙◌, ap, refl, sym, subst, ap₂, List, [], ◌∷◌, ◌++◌, length, get_or, set}
use Rattle.model.proofs.Prelude.{length-set, arith}
use mir.Syntax.{w64}
use mir.Val.{Fits}
use Rattle.model.specs.Runs.{Run}
use Rattle.run_lists.specs.RunLists.{RunWithin, Sound, shift_run, shift_runs, run_at, runs_in_words, write_runs_of}
use Rattle.run_lists.proofs.MemberLaws.{run-path}
use Rattle.run_lists.proofs.RunWordLaws.{length_runs, runs-snoc, sound-at}
use Rattle.run_union.proofs.ShiftLaws.{shift-append, length_shift}
use Rattle.run_union.proofs.RunWriteLaws.{get_d-write_runs, write_runs-snoc}

-- the runs from..i are placed from `place` on
pub record Placing (ws₀ : List ℕ) (from to place offset : ℕ) (ws : List ℕ) (i : ℕ) : Type 0 where
  pub begun : from ≤ i
  pub within : i ≤ to
  pub below : to ≤ place
  pub room : 2 * (place + (to - from)) ≤ length ws₀
  pub sound : Sound (2 ^ 62) (runs_in_words ws₀ from (to - from))
  pub same_length_of : length ws ≡ length ws₀
  pub written : ws ≡ write_runs_of ws₀ place (shift_runs offset (runs_in_words ws₀ from (i - from)))

pub placing_start : (ws : List ℕ) (from to place offset : ℕ) → from ≤ to → to ≤ place → 2 * (place + (to - from)) ≤ length ws
    → Sound (2 ^ 62) (runs_in_words ws from (to - from)) → Placing ws from to place offset ws from
placing_start ws from to place offset h l room sound =
    let z : from - from ≡ 0 = omega arith in
    record {
      begun = omega arith;
      within = h;
      below = l;
      room = room;
      sound = sound;
      same_length_of = refl;
      written = sym (ap (λ (k : ℕ). write_runs_of ws place (shift_runs offset (runs_in_words ws from k))) z);
    }

module _ {ws₀ : List ℕ} {from to place offset : ℕ} {ws : List ℕ} {i : ℕ} (now : Placing ws₀ from to place offset ws i) where
  pub placing_end : to ≤ i → ws ≡ write_runs_of ws₀ place (shift_runs offset (runs_in_words ws₀ from (to - from)))
  placing_end h =
      let e : i ≡ to = omega (arith, now.within) in
      now.written ∙ ap (λ (k : ℕ). write_runs_of ws₀ place (shift_runs offset (runs_in_words ws₀ from (k - from)))) e

  module _ (lt : i < to) where
    kept_word : (j : ℕ) → j < 2 * place → get_or ws j 0 ≡ get_or ws₀ j 0
    kept_word j h = ap (λ (l : List ℕ). get_or l j 0) now.written ∙ get_d-write_runs ws₀ place j (shift_runs offset (runs_in_words ws₀ from (i - from))) h

    placing_run : RunWithin (2 ^ 62) (run_at ws i)
    placing_run =
        let same : run_at ws₀ i ≡ run_at ws i =
        run-path {r = run_at ws₀ i} {s = run_at ws i} (sym (kept_word (2 * i) (omega (arith, now.below)))) (sym (kept_word (2 * i + 1) (omega (arith, now.below)))) in
        subst (RunWithin (2 ^ 62)) same (sound-at (2 ^ 62) ws₀ from to i now.sound now.begun lt)

    module _ (least : offset ≤ 2 ^ 62) where
      pub placing_low : Fits w64 (get_or ws (2 * i) 0 + offset)
      placing_low = omega (arith, placing_run.order, placing_run.most)

      pub placing_high : Fits w64 (get_or ws (2 * i + 1) 0 + offset)
      placing_high = omega (arith, placing_run.most)

    abbrev at : ℕ
    at = place + (i - from)

    pub placing_more : Placing ws₀ from to place offset (set (set ws (2 * at) (get_or ws (2 * i) 0 + offset)) (2 * at + 1) (get_or ws (2 * i + 1) 0 + offset)) (i + 1)
    placing_more =
        let k : i + 1 - from ≡ suc (i - from) = omega (arith, now.begun) in
        let f : from + (i - from) ≡ i = omega (arith, now.begun) in
        let so_far : List Run = shift_runs offset (runs_in_words ws₀ from (i - from)) in
        let l : at ≡ place + length (shift_runs offset (runs_in_words ws₀ from (i - from))) =
        ap (λ (x : ℕ). place + x) (sym (length_shift offset (runs_in_words ws₀ from (i - from)) ∙ length_runs ws₀ from (i - from))) in
        let next : shift_runs offset (runs_in_words ws₀ from (i + 1 - from)) ≡ so_far ++ shift_run offset (run_at ws₀ i) ∷ [] =
        ap (λ (x : ℕ). shift_runs offset (runs_in_words ws₀ from x)) k
        ∙ ap (shift_runs offset) (runs-snoc ws₀ from (i - from))
        ∙ shift-append offset (runs_in_words ws₀ from (i - from)) (run_at ws₀ (from + (i - from)) ∷ [])
        ∙ ap (λ (x : ℕ). so_far ++ shift_run offset (run_at ws₀ x) ∷ []) f in
        record {
          begun = omega (arith, now.begun);
          within = omega arith;
          below = now.below;
          room = now.room;
          sound = now.sound;
          same_length_of = simp length-set now.same_length_of;
          written =
              ap₂ (λ (x y : ℕ). set (set ws (2 * at) (x + offset)) (2 * at + 1) (y + offset)) (kept_word (2 * i) (omega (arith, now.below)))
              (kept_word (2 * i + 1) (omega (arith, now.below)))
              ∙ ap (λ (w : List ℕ). set (set w (2 * at) (get_or ws₀ (2 * i) 0 + offset)) (2 * at + 1) (get_or ws₀ (2 * i + 1) 0 + offset)) now.written
              ∙ sym (write_runs-snoc ws₀ place at so_far (shift_run offset (run_at ws₀ i)) l)
              ∙ ap (λ (s : List Run). write_runs_of ws₀ place s) (sym next);
        }
