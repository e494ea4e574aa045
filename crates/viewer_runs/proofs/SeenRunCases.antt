-- The cases of a store's runs cut to ranges: the words of an edge's runs are two for each, and what the lists have in common is sound as they are.
use Rattle.model.proofs.Prelude.{ℕ, ◌≤◌, ◌+◌, ◌-◌, ◌*◌, ◌^◌, ◌/◌, max, ◌≡◌, ◌∙◌, ap, sym, subst, List, length, arith, rules}
use Rattle.model.specs.Path.{Edge}
use Rattle.model.specs.Runs.{Run, size}
use Rattle.model.specs.Store.{max_runs, run_count, store_runs}
use Rattle.model.proofs.RunLaws.{separated_weaken}
use Rattle.run_lists.specs.RunLists.{Sound, runs_in_words}
use Rattle.store_words.specs.Sound.{FewRuns, SoundWords, edge_words}
use Rattle.store_words.proofs.SoundLaws.{edge-sound, edge_few}
use Rattle.store_words.proofs.RunPlaceLaws.{edge-words-runs, edge-words-fit}
use Rattle.run_intersection.specs.Meets.{meets}
use Rattle.run_intersection.proofs.MeetLaws.{meets-sound}

module _ {ws : List ℕ} (f : FewRuns ws) (e : Edge) {part : List ℕ} (is : part ≡ edge_words ws e) where
  half : length part / 2 ≡ run_count ws e
  half = omega (arith, ap (λ (x : List ℕ). length x) is, edge-words-fit ws e f)

  pub half-inside : 2 * (length part / 2) ≤ length part
  half-inside = omega arith

  pub half_room : (n : ℕ) {m : ℕ} → 2 * (n + max_runs) ≤ m → 2 * (n + length part / 2) ≤ m
  half_room n h = omega (arith, half, edge_few f e)

  pub half-few : (n : ℕ) {r : ℕ} → r ≤ n + length part / 2 → r ≤ n + max_runs
  half-few n h = omega (arith, half, edge_few f e)

  pub half_runs : {rs : List Run} (a : List Run) → rs ≡ meets a (runs_in_words part 0 (length part / 2)) → rs ≡ meets a (store_runs ws e)
  half_runs a p =
      p ∙ ap (λ (x : List Run). meets a x) (ap (λ (x : ℕ). runs_in_words part 0 x) half ∙ ap (λ (x : List ℕ). runs_in_words x 0 (run_count ws e)) is ∙ edge-words-runs ws e)

-- the numbers counted
module _ {ws : List ℕ} (s : SoundWords (2 ^ 62) ws) (e : Edge) (a : List Run) (sa : Sound (2 ^ 62) a) (words : List ℕ) (r : ℕ)
    (made : runs_in_words words 0 r ≡ meets a (store_runs ws e)) where
  none : runs_in_words words 0 (r - 0) ≡ meets a (store_runs ws e)
  none = let z : r - 0 ≡ r = omega arith in ap (λ (x : ℕ). runs_in_words words 0 x) z ∙ made

  pub made-sound : Sound (2 ^ 62) (runs_in_words words 0 (r - 0))
  made-sound =
      subst (Sound (2 ^ 62)) (sym none)
      (separated_weaken (2 ^ 62) (max 1 1) 1 (meets a (store_runs ws e)) (omega arith) (meets-sound (2 ^ 62) 1 1 a (store_runs ws e) sa (edge-sound s e)))

  pub made-size : {n : ℕ} → n ≡ size (runs_in_words words 0 (r - 0)) → n ≡ size (meets a (store_runs ws e))
  made-size p = p ∙ ap size none

pub ruleset seen-cases = (half-inside, half_room, half-few, half_runs, made-sound, made-size, rules)
