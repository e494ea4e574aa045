-- Every legal pair of vectors of a few inputs, as test records in the order in which they are applied.
use Rattle.std.specs.Prelude.{true, false, List, [], ◌∷◌, ◌++◌, ℕ, zero, suc, ◌^◌, eqb}
use Rattle.model.specs.Encode.{test_bytes}

-- the record of a pair of vectors of up to 8 inputs, each a number with input 0 as its low bit
abbrev pub pair_record : ℕ → ℕ → List ℕ
pair_record a b = test_bytes (a ∷ []) (b ∷ [])

-- V2 counted upward from `b` on, `n` of them; the pair that is equal is skipped
unfoldable pub pairs_with : ℕ → ℕ → ℕ → List (List ℕ)
pairs_with a b zero = []
pairs_with a b (suc n) = elim (eqb a b) [ true ↦ pairs_with a (suc b) n | false ↦ pair_record a b ∷ pairs_with a (suc b) n ]

-- V1 counted upward from `a` on, `n` of them; `m` vectors in all
unfoldable pub pairs_from : ℕ → ℕ → ℕ → List (List ℕ)
pairs_from m a zero = []
pairs_from m a (suc n) = pairs_with a 0 m ++ pairs_from m (suc a) n

-- every legal pair of `i` inputs, V1 counted upward and V2 upward within it
unfoldable pub all_pairs : ℕ → List (List ℕ)
all_pairs i = pairs_from (2 ^ i) 0 (2 ^ i)
