-- Rows of 64 numbers in memory: added up, and moved to greater lengths.
use Rattle.std.specs.Prelude.{◌≡◌, true, false, List, map, ℕ, ◌+◌, ◌-◌, ◌^◌, ◌≤◌, ◌<◌, leb, length, get_or}
use Rattle.length_rows.specs.Lengths.{lengths, row}

-- each number of a row plus the number of `f` for its length
unfoldable pub added : List ℕ → (ℕ → ℕ) → List ℕ
added ns f = row (λ l. get_or ns l 0 + f l)

-- the numbers of `f` for paths that are longer by `by` gates
unfoldable pub longer : ℕ → (ℕ → ℕ) → ℕ → ℕ
longer by f l = elim (leb by l) [ true ↦ f (l - by) | false ↦ 0 ]

-- A row to which the numbers of `f` can be added without one leaving its word
pub record Room (ns : List ℕ) (f : ℕ → ℕ) : Type 0 where
  pub long : length ns ≡ lengths
  pub fits : (l : ℕ) → l < lengths → get_or ns l 0 + f l < 2 ^ 64

-- the numbers of length `l` in the rows of several nets
unfoldable pub column : ℕ → List (List ℕ) → List ℕ
column l rows = map (λ ns. get_or ns l 0) rows

-- no number of a row is over that of another
pub record Under (low high : List ℕ) : Type 0 where
  pub under : (l : ℕ) → l < lengths → get_or low l 0 ≤ get_or high l 0
