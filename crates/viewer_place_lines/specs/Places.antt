-- What a text of output places says (document 02, ticket 13): decimal places, one a line.
use Rattle.std.specs.Prelude.{Bool, true, false, ◌&&◌, List, [], ◌∷◌, ◌++◌, ℕ, suc, ◌+◌, ◌-◌, ◌*◌, leb, length, take}
use Rattle.model.specs.Base.{all_of}
use Rattle.model.specs.Read.{within}
use Rattle.bench_lines.specs.Text.{lines_of}

-- the digits 0 to 9
abbrev pub is_digit_of : ℕ → Bool
is_digit_of b = within 0x30 0x39 b

-- the number of decimal digits, after digits of the number `n`
unfoldable pub number_from : ℕ → List ℕ → ℕ
number_from n [] = n
number_from n (b ∷ bs) = number_from (10 * n + (b - 0x30)) bs

abbrev pub number_of : List ℕ → ℕ
number_of line = number_from 0 line

-- a line is a place: digits, at least one, of a number of 16 bits
unfoldable pub is_place_line : List ℕ → Bool
is_place_line line = leb 1 (length line) && all_of is_digit_of line && leb (number_of line) 65535

-- What a text says: its places, or the number of the first line that is none
pub data Places : Type 0 where
  listed : List ℕ → Places
  bad_line : ℕ → Places

-- the lines after those of the places `ps`, the first of them with number `k`
unfoldable pub places_from : ℕ → List ℕ → List (List ℕ) → Places
places_from k ps [] = listed ps
places_from k ps (l ∷ ls) = elim (is_place_line l) [ true ↦ places_from (suc k) (ps ++ (number_of l ∷ [])) ls | false ↦ bad_line k ]

-- a line ends with 0A, 0D 0A or the text's end; lines are counted from 1
unfoldable pub places_in : List ℕ → Places
places_in text = places_from 1 [] (lines_of text)

-- how many places are kept: one more than any netlist has outputs, so a longer list is refused by those that are kept, too
abbrev pub most_kept : ℕ
most_kept = 65

abbrev pub kept : Places → Places
kept (listed ps) = listed (take most_kept ps)
kept (bad_line k) = bad_line k
