-- The runs that a run leaves as they are: those below it and those above it, not adjacent.
use Rattle.std.specs.Prelude.{true, false, List, [], ◌∷◌, ℕ, ◌+◌, ltb}
use Rattle.model.specs.Runs.{Run}

-- the runs that end below the neighbour of `low`, and those that begin above the neighbour of `high`
unfoldable pub keep_below : ℕ → List Run → List Run
keep_below low [] = []
keep_below low (r ∷ rs) = elim (ltb (r.high + 1) low) [ true ↦ r ∷ keep_below low rs | false ↦ keep_below low rs ]

unfoldable pub keep_above : ℕ → List Run → List Run
keep_above high [] = []
keep_above high (r ∷ rs) = elim (ltb (high + 1) r.low) [ true ↦ r ∷ keep_above high rs | false ↦ keep_above high rs ]
