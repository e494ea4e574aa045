-- What the functions that find runs in sound words promise.
use Rattle.std.specs.Prelude.{◌≡◌, true, false, List, ◌∷◌, ◌++◌, ℕ, ◌+◌, ◌-◌, ◌≤◌, ltb, length}
use Rattle.model.specs.Runs.{Run}
use Rattle.tree_words.specs.TreeLayout.{run_in_of}
use Rattle.tree_words.specs.Calls.{Found, none, found, first_run_of}
use Rattle.tree_words.specs.KeptRuns.{keep_below, keep_above}
use Rattle.tree_descent.specs.Descent.{reaches, begins, last_run}

-- the ends of the run that the run low..high makes with those that overlap it or are adjacent: the first that reaches its neighbour
-- below, and the last that begins at its neighbour above or below it
unfoldable pub low_end : ℕ → Found → ℕ
low_end low none = low
low_end low (found r) = elim (ltb r.low low) [ true ↦ r.low | false ↦ low ]

unfoldable pub high_end : ℕ → Found → ℕ
high_end high none = high
high_end high (found r) = elim (ltb high r.high) [ true ↦ r.high | false ↦ high ]

abbrev pub join_low : ℕ → List Run → ℕ
join_low low rs = low_end low (first_run_of (reaches (low - 1)) rs)

abbrev pub join_high : ℕ → List Run → ℕ
join_high high rs = high_end high (last_run (begins (high + 1)) rs)

-- the runs of a list with low..high inserted, and with the stored run low..high removed
abbrev pub merged : ℕ → ℕ → List Run → List Run
merged low high rs = keep_below low rs ++ (record { low = join_low low rs; high = join_high high rs } ∷ keep_above high rs)

abbrev pub removed : ℕ → ℕ → List Run → List Run
removed low high rs = keep_below low rs ++ keep_above high rs

-- the leaf of a run that was asked for stands at word `r`, or `r` is 0 and there is none
pub record FoundAt (ws : List ℕ) (f : Found) (r : ℕ) : Type 0 where
  pub absent : r ≡ 0 → f ≡ none
  pub present : (r ≡ 0 → ⊥) → f ≡ found (run_in_of ws r)
  pub inside : (r ≡ 0 → ⊥) → r + 3 ≤ length ws
