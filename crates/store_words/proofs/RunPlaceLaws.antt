-- The run places of a store's words: the part that begins after the head, rising runs from place 0 on, falling runs from place 1,024 on.
use Rattle.model.proofs.Prelude.{ℕ, ◌≤◌, ◌+◌, ◌-◌, ◌*◌, suc, zero, ◌≡◌, ◌∙◌, ap, refl, sym, List, ◌∷◌, length, drop, take, length-drop}
use Rattle.model.proofs.Prelude.{length-take-le, arith}
use lib.Seq.{get_or-take}
use Rattle.model.specs.Path.{Edge, rising, falling}
use Rattle.model.specs.Store.{head_words, first_word, max_runs, runs_at, run_count, store_runs}
use Rattle.path_faults.specs.Answers.{model_edge}
use Rattle.path_faults.specs.declared.Edge as Code
use Rattle.path_faults.specs.declared.Edge.TheVariants as at
use Rattle.run_lists.specs.RunLists.{run_at, runs_in_words}
use Rattle.record_bytes.proofs.PartLaws.{part-rest}
use Rattle.run_lists.proofs.MemberLaws.{run-path}
use Rattle.run_lists.proofs.RunWordLaws.{runs-of_part}
use Rattle.store_words.specs.Sound.{FewRuns, edge_words}

-- the part of the words after the head, as the code lends it
abbrev pub places_of : List ℕ → List ℕ
places_of ws = take (length ws - head_words) (drop head_words ws)

pub places-rising : (ws : List ℕ) → runs_in_words (places_of ws) 0 (run_count ws rising - 0) ≡ store_runs ws rising
unfolding store_runs
places-rising ws =
    let n : run_count ws rising - 0 ≡ run_count ws rising = omega arith in
    ap (λ (k : ℕ). runs_in_words (places_of ws) 0 k) n
    ∙ ap (λ (l : List ℕ). runs_in_words l 0 (run_count ws rising)) (part-rest head_words ws)
    ∙ runs-of_part ws head_words 0 (run_count ws rising)

pub places-falling : (ws : List ℕ) → runs_in_words (places_of ws) max_runs (max_runs + run_count ws falling - max_runs) ≡ store_runs ws falling
unfolding store_runs
places-falling ws =
    let n : max_runs + run_count ws falling - max_runs ≡ run_count ws falling = omega arith in
    ap (λ (k : ℕ). runs_in_words (places_of ws) max_runs k) n
    ∙ ap (λ (l : List ℕ). runs_in_words l max_runs (run_count ws falling)) (part-rest head_words ws)
    ∙ runs-of_part ws head_words max_runs (run_count ws falling)

-- the words of an edge's runs, as a part of their own
first-words : (ws : List ℕ) (m n i : ℕ) → 2 * (i + n) ≤ m → runs_in_words (take m ws) i n ≡ runs_in_words ws i n
first-words ws m zero i h = refl
first-words ws m (suc n) i h =
    λ t. run-path {r = run_at (take m ws) i} {s = run_at ws i} (get_or-take m ws (2 * i) 0 (omega arith)) (get_or-take m ws (2 * i + 1) 0 (omega arith)) t
    ∷ first-words ws m n (i + 1) (omega arith) t

module _ (ws : List ℕ) (e : Edge) where
  pub edge-words-runs : runs_in_words (edge_words ws e) 0 (run_count ws e) ≡ store_runs ws e
  unfolding store_runs
  edge-words-runs =
      let at : first_word e + 0 ≡ first_word e = omega arith in
      first-words (drop (first_word e) ws) (2 * run_count ws e) (run_count ws e) 0 (omega arith)
      ∙ runs-of_part ws (first_word e) 0 (run_count ws e) ∙ ap (λ (k : ℕ). runs_at ws k (run_count ws e)) at

  pub edge-words-length : first_word e + 2 * run_count ws e ≤ length ws → length (edge_words ws e) ≡ 2 * run_count ws e
  edge-words-length h = length-take-le (2 * run_count ws e) (drop (first_word e) ws) (omega (arith, length-drop (first_word e) ws))

pub edge-words-fit : (ws : List ℕ) (e : Edge) → FewRuns ws → length (edge_words ws e) ≡ 2 * run_count ws e
edge-words-fit ws rising f = edge-words-length ws rising (omega (arith, f.long, f.few_rising))
edge-words-fit ws falling f = edge-words-length ws falling (omega (arith, f.long, f.few_falling))

module _ (ws : List ℕ) (edge : Code.Edge) where
  pub rising-words : edge ≡ at.Rising → (e : ℕ) → e ≡ head_words + 2 * run_count ws rising → take (e - head_words) (drop head_words ws) ≡ edge_words ws (model_edge edge)
  rising-words k e q =
      let n : e - head_words ≡ 2 * run_count ws rising = omega arith in
      ap (λ (m : ℕ). take m (drop head_words ws)) n ∙ ap (λ (d : Code.Edge). edge_words ws (model_edge d)) (sym k)

  pub falling-words : edge ≡ at.Falling → (e : ℕ) → e ≡ first_word falling + 2 * run_count ws falling
      → take (e - first_word falling) (drop (first_word falling) ws) ≡ edge_words ws (model_edge edge)
  falling-words k e q =
      let n : e - first_word falling ≡ 2 * run_count ws falling = omega arith in
      ap (λ (m : ℕ). take m (drop (first_word falling) ws)) n ∙ ap (λ (d : Code.Edge). edge_words ws (model_edge d)) (sym k)
