-- The share of the paths that a number is, as text.
use Rattle.std.specs.Prelude.{true, false, ◌&&◌, List, [], ◌++◌, ℕ, ◌*◌, ◌/◌, ◌%◌, ltb, leb, eqb}
use Rattle.text_line.specs.Decimal.{decimal_text}
use Rattle.text_line.specs.Lines.{ascii}

-- a number of paths
unfoldable pub count_text : ℕ → List ℕ
count_text paths = decimal_text paths ++ elim (eqb paths 1) [ true ↦ ascii " path" | false ↦ ascii " paths" ]

-- a part of a whole in percent, one decimal, rounded down: `66.6 %`
unfoldable pub percent_text : ℕ → ℕ → List ℕ
percent_text part whole =
    decimal_text (part * 1000 / whole / 10) ++ ascii "." ++ decimal_text (part * 1000 / whole % 10) ++ ascii " %"

-- the share of the paths, ` (66.6 % of 3 paths)`; no percent where there is no path, or the number is over that of the paths: ` (of 3 paths)`
unfoldable pub claimed_share : ℕ → ℕ → List ℕ
claimed_share claimed paths =
    elim (ltb 0 paths && leb claimed paths) [
      | true ↦ ascii " (" ++ percent_text claimed paths ++ ascii " of " ++ count_text paths ++ ascii ")"
      | false ↦ ascii " (of " ++ count_text paths ++ ascii ")"
    ]

-- the same after it, ` (33.3 %)` or nothing
unfoldable pub true_share : ℕ → ℕ → List ℕ
true_share truth paths = elim (ltb 0 paths && leb truth paths) [ true ↦ ascii " (" ++ percent_text truth paths ++ ascii ")" | false ↦ [] ]
