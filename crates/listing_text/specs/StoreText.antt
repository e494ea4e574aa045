-- The room that the lines of a store take, and the runs of the words that it hands out.
use Rattle.std.specs.Prelude.{List, ℕ, ◌/◌, length}
use Rattle.model.specs.Runs.{Run}
use Rattle.model.specs.Store.{runs_at}

-- the least bytes of the buffer for the text
abbrev pub out_bytes : ℕ
out_bytes = 131072

-- the most bytes of the lines of an edge's runs: 1,024 lines of at most 44
abbrev pub edge_bytes : ℕ
edge_bytes = 45056

-- the runs of some words, two for each
abbrev pub runs_in : List ℕ → List Run
runs_in words = runs_at words 0 (length words / 2)
