-- The faults that a store does not hold, by their numbers.
-- Names: ws are the words of a store, paths is the number of paths.
use Rattle.std.specs.Prelude.{◌≡◌, Bool, true, false, List, [], ◌∷◌, ℕ, zero, suc, ◌*◌, length, take}
use Rattle.std.proofs.lemmas.List.Edits.{sets}
use Rattle.model.specs.Path.{edge_of_fault, path_of_fault}
use Rattle.model.specs.Runs.{in_runs}
use Rattle.model.specs.Store.{store_runs}

-- the store holds fault number `f`
abbrev pub held_number : List ℕ → ℕ → Bool
held_number ws f = in_runs (store_runs ws (edge_of_fault f)) (path_of_fault f)

-- of the fault numbers from `f` on, `n` of them, those that the store does not hold, ascending
unfoldable pub not_held_from : List ℕ → ℕ → ℕ → List ℕ
not_held_from ws f zero = []
not_held_from ws f (suc n) = elim (held_number ws f) [ true ↦ not_held_from ws (suc f) n | false ↦ f ∷ not_held_from ws (suc f) n ]

-- those of all paths, 1 to 2T
unfoldable pub undetected : List ℕ → ℕ → List ℕ
undetected ws paths = not_held_from ws 1 (2 * paths)

-- the first of them, which are listed
abbrev pub most_listed : ℕ
most_listed = 20

unfoldable pub listed : List ℕ → ℕ → List ℕ
listed ws paths = take most_listed (undetected ws paths)

-- they stand at the start of the words lent for them, and `r` is how many they are
pub record ListWritten (r : ℕ) (found left ws : List ℕ) (paths : ℕ) : Type 0 where
  pub many : r ≡ length (listed ws paths)
  pub words : left ≡ sets found 0 (listed ws paths)
