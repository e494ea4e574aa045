-- What the checks leave known of a store's words.
use Rattle.std.specs.Prelude.{◌≡◌, List, ℕ, ◌*◌, ◌≤◌, length, take, drop}
use Rattle.model.specs.Path.{Edge, rising, falling}
use Rattle.model.specs.Runs.{Separated}
use Rattle.model.specs.Store.{max_runs, store_words_count, first_word, run_count, store_runs}

-- a store's length, and no more runs than places: neither 1 nor 40 holds
pub record FewRuns (ws : List ℕ) : Type 0 where
  pub long : length ws ≡ store_words_count
  pub few_rising : run_count ws rising ≤ max_runs
  pub few_falling : run_count ws falling ≤ max_runs

-- besides, the runs of each edge are runs of path numbers 1 to `paths`: 41 does not hold either
pub record SoundWords (paths : ℕ) (ws : List ℕ) : Type 0 where
  pub few : FewRuns ws
  pub sound_rising : Separated paths 1 (store_runs ws rising)
  pub sound_falling : Separated paths 1 (store_runs ws falling)

-- the words of an edge's runs
abbrev pub edge_words : List ℕ → Edge → List ℕ
edge_words ws e = take (2 * run_count ws e) (drop (first_word e) ws)
