-- What the checks leave known, as the functions of `run_lists` want it.
use Rattle.model.proofs.Prelude.{ℕ, ◌≤◌, ◌+◌, ◌-◌, ◌^◌, ◌≡◌, ◌∙◌, ap, sym, subst⁻¹, Bool, List, length, leb, leb→le}
use Rattle.model.specs.Base.{value, checks}
use Rattle.model.specs.Path.{Edge, rising, falling}
use Rattle.model.specs.Runs.{Run, separated_runs_of, size, in_runs}
use Rattle.model.specs.Store.{max_runs, store_words_count, run_count, store_runs, store_rules}
use Rattle.model.proofs.BoolLaws.{and_left, and_right}
use Rattle.model.proofs.AnswerLaws.{checks→}
use Rattle.model.proofs.RunLaws.{separated→}
use Rattle.path_faults.specs.Answers.{model_edge}
use Rattle.path_faults.specs.declared.Edge as Code
use Rattle.path_faults.specs.declared.Edge.TheVariants as at
use Rattle.run_lists.specs.RunLists.{Sound, runs_in_words}
use Rattle.run_lists.proofs.MemberLaws.{sound-mono}
use Rattle.store_words.specs.WordAnswers.{totals_both}
use Rattle.store_words.specs.Sound.{FewRuns, SoundWords}
use Rattle.store_words.proofs.RunPlaceLaws.{places_of, places-rising, places-falling}
use Rattle.std.specs.Prelude.{Result, Ok}
use Rattle.model.specs.declared.Refusal.{Refusal}
use Rattle.model.specs.Returned.{answer_of}

-- words that pass the checks are sound
pub sound-words : (paths : ℕ) (ws : List ℕ) → length ws ≡ store_words_count → value tt ≡ checks (store_rules paths ws) → SoundWords paths ws
sound-words paths ws l e =
    let p = checks→ (store_rules paths ws) (record { got = tt; is = sym e }) in
    let few : Edge → Bool = λ d. leb (run_count ws d) max_runs in
    let apart : Edge → Bool = λ d. separated_runs_of paths 1 (store_runs ws d) in
    record {
      few = record {
        long = l;
        few_rising = leb→le (run_count ws rising) max_runs (and_left (few rising) (few falling) p.0);
        few_falling = leb→le (run_count ws falling) max_runs (and_right (few rising) (few falling) p.0);
      };
      sound_rising = separated→ paths 1 (store_runs ws rising) (and_left (apart rising) (apart falling) p.1.1.0);
      sound_falling = separated→ paths 1 (store_runs ws falling) (and_right (apart rising) (apart falling) p.1.1.0);
    }

-- edge by edge
pub edge-sound : {n : ℕ} {ws : List ℕ} → SoundWords n ws → (e : Edge) → Sound n (store_runs ws e)
edge-sound s rising = s.sound_rising
edge-sound s falling = s.sound_falling

pub edge_few : {ws : List ℕ} → FewRuns ws → (e : Edge) → run_count ws e ≤ max_runs
edge_few f rising = f.few_rising
edge_few f falling = f.few_falling

-- for more paths too
pub sound_more : (n m : ℕ) (ws : List ℕ) → n ≤ m → SoundWords n ws → SoundWords m ws
sound_more n m ws h s = record {
  few = s.few;
  sound_rising = sound-mono 1 n m (store_runs ws rising) h s.sound_rising;
  sound_falling = sound-mono 1 n m (store_runs ws falling) h s.sound_falling;
}

-- words that the code found sound
module _ (paths : ℕ) (ws : List ℕ) (r : Result (Unit {0}) Refusal) (checked : answer_of r ≡ checks (store_rules paths ws)) where
  pub checked_sound : length ws ≡ store_words_count → paths ≤ 2 ^ 62 → r ≡ Ok tt → SoundWords (2 ^ 62) ws
  checked_sound l h e = sound_more paths (2 ^ 62) ws h (sound-words paths ws l (sym (ap answer_of e) ∙ checked))

module _ (ws : List ℕ) (n : ℕ) (s : SoundWords n ws) where
  pub sound-rising : Sound n (runs_in_words (places_of ws) 0 (run_count ws rising - 0))
  sound-rising = subst⁻¹ (Sound n) (places-rising ws) s.sound_rising

  pub sound-falling : Sound n (runs_in_words (places_of ws) max_runs (max_runs + run_count ws falling - max_runs))
  sound-falling = subst⁻¹ (Sound n) (places-falling ws) s.sound_falling

pub totals-sum : (ws : List ℕ) (r f : ℕ) → r ≡ size (runs_in_words (places_of ws) 0 (run_count ws rising - 0))
    → f ≡ size (runs_in_words (places_of ws) max_runs (max_runs + run_count ws falling - max_runs)) → record { on_rising = r; on_falling = f } ≡ totals_both ws
totals-sum ws r f p q =
    let a : r ≡ size (store_runs ws rising) = p ∙ ap size (places-rising ws) in
    let b : f ≡ size (store_runs ws falling) = q ∙ ap size (places-falling ws) in
    λ i. record { on_rising = a i; on_falling = b i }

-- the search of an edge's runs, as the code's `Edge` names it
module _ (ws : List ℕ) (edge : Code.Edge) (path : ℕ) (r : Bool) where
  pub held-rising : edge ≡ at.Rising → r ≡ in_runs (runs_in_words (places_of ws) 0 (run_count ws rising - 0)) path → r ≡ in_runs (store_runs ws (model_edge edge)) path
  held-rising e p = p ∙ ap (λ (s : List Run). in_runs s path) (places-rising ws ∙ sym (ap (λ (d : Code.Edge). store_runs ws (model_edge d)) e))

  pub held-falling : edge ≡ at.Falling → r ≡ in_runs (runs_in_words (places_of ws) max_runs (max_runs + run_count ws falling - max_runs)) path
      → r ≡ in_runs (store_runs ws (model_edge edge)) path
  held-falling e p = p ∙ ap (λ (s : List Run). in_runs s path) (places-falling ws ∙ sym (ap (λ (d : Code.Edge). store_runs ws (model_edge d)) e))
