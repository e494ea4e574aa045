-- Stores of a few paths and the faults that they do not hold, the first 20, worked by hand.
use Rattle.std.specs.Prelude.{List, [], ◌∷◌, ℕ}
use Rattle.model.specs.Base.{numbers_from}
use Rattle.model.specs.Runs.{run}
use Rattle.model.specs.Examples.{holding}
use Rattle.model.specs.Store.{empty_store}

pub record Example : Type 0 where
  pub store : List ℕ
  pub paths : ℕ
  pub faults : List ℕ

abbrev pub no_example : Example
no_example = record { store = empty_store; paths = 0; faults = [] }

unfoldable pub examples : List Example
examples =
    -- what all pairs of document 01's Q leave: path 1 at both edges and path 2 rising are not held
    record { store = holding 1 (run 3 3 ∷ []) (run 2 3 ∷ []); paths = 3; faults = 1 ∷ 2 ∷ 3 ∷ [] }
    -- rising paths 2 and 3, falling paths 1 and 3: path 1 rising is fault 1, path 2 falling fault 4
    ∷ record { store = holding 1 (run 2 3 ∷ []) (run 1 1 ∷ run 3 3 ∷ []); paths = 3; faults = 1 ∷ 4 ∷ [] }
    -- all faults, none, and no path
    ∷ record { store = holding 1 (run 1 2 ∷ []) (run 1 2 ∷ []); paths = 2; faults = [] }
    ∷ record { store = empty_store; paths = 2; faults = 1 ∷ 2 ∷ 3 ∷ 4 ∷ [] }
    ∷ no_example
    -- 22 faults, of which 20 are listed
    ∷ record { store = empty_store; paths = 11; faults = numbers_from 1 20 }
    ∷ []
