-- Names as two words each.
use Rattle.std.specs.Prelude.{◌≡◌, true, false, ◌&&◌, List, [], ◌∷◌, ◌++◌, ℕ, zero, suc, ◌+◌, eqb, get_or, take, drop}
use Rattle.model.specs.Base.{from_little_endian}
use Rattle.bench_lines.specs.LineReading.{Named}
use Rattle.bench_lines.specs.declared.inner.keys.NameKey.{NameKey}

abbrev pub key_low : List ℕ → ℕ
key_low w = from_little_endian (take 8 w)

abbrev pub key_high : List ℕ → ℕ
key_high w = from_little_endian (drop 8 w)

abbrev pub key_of : List ℕ → NameKey
key_of w = record { low = key_low w; high = key_high w }

unfoldable pub key_words : List (List ℕ) → List ℕ
key_words [] = []
key_words (x ∷ xs) = key_low x ∷ key_high x ∷ key_words xs

-- the place of a key among `n` keys, the first at word `at`; `n` if it is not there
unfoldable pub key_place : ℕ → ℕ → ℕ → ℕ → List ℕ → ℕ
key_place low high zero at ws = 0
key_place low high (suc n) at ws =
    elim (eqb (get_or ws at 0) low && eqb (get_or ws (at + 1) 0) high) [ true ↦ 0 | false ↦ suc (key_place low high n (at + 2) ws) ]

-- the words begin with the keys of these names
pub record Holds (words : List ℕ) (names : List (List ℕ)) : Type 0 where
  pub rest : List ℕ
  pub is : words ≡ key_words names ++ rest

-- names of 1 to 16 bytes
unfoldable pub AllNamed : List (List ℕ) → Type 0
AllNamed [] = Unit {0}
AllNamed (x ∷ xs) = Named x × AllNamed xs
