-- The table of a text's names: two words for each of 512 nets, the name's bytes low byte first. A name has at most 16 bytes, and none of them is 0.
use Rattle.std.specs.Prelude.{◌≡◌, true, false, List, [], ◌∷◌, ◌++◌, ℕ, zero, suc, ◌+◌, ◌*◌, ◌/◌, ◌%◌, ltb, eqb, length, get_or, replicate}
use Rattle.bench_net_names.specs.NetNames.{name_of}

-- a table without a name
unfoldable pub no_names_of : List ℕ
no_names_of = replicate 1024 0

-- the bytes of a number, low byte first, up to the last that is not 0 and at most `most`
unfoldable pub word_bytes : ℕ → ℕ → List ℕ
word_bytes zero v = []
word_bytes (suc most) v = elim (eqb v 0) [ true ↦ [] | false ↦ v % 256 ∷ word_bytes most (v / 256) ]

-- the name in the two words of a net
abbrev pub pair_bytes : ℕ → ℕ → List ℕ
pair_bytes low high = word_bytes 8 low ++ word_bytes 8 high

-- The name that a table has of a net; no bytes where it has no such net
unfoldable pub name_in_of : List ℕ → ℕ → List ℕ
name_in_of names net =
    elim (ltb (2 * net + 1) (length names)) [ true ↦ pair_bytes (get_or names (2 * net) 0) (get_or names (2 * net + 1) 0) | false ↦ [] ]

-- the table of a text: each net has its name
pub record NamesTold (names text : List ℕ) : Type 0 where
  pub told : (net : ℕ) → name_in_of names net ≡ name_of text net
