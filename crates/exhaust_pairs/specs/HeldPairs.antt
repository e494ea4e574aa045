-- Pairs of vectors in words, as a block of tests has them: V1 of pair t at place t, V2 at place 64 + t.
use Rattle.std.specs.Prelude.{List, map, ℕ, ◌+◌, get_or}
use Rattle.model.specs.Base.{numbers_from}
use Rattle.exhaust_pairs.specs.AllPairs.{pair_record}

abbrev pub held_pair : List ℕ → ℕ → List ℕ
held_pair vectors t = pair_record (get_or vectors t 0) (get_or vectors (64 + t) 0)

-- the records of the first n
unfoldable pub held_pairs : List ℕ → ℕ → List (List ℕ)
held_pairs vectors n = map (held_pair vectors) (numbers_from 0 n)
