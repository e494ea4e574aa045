-- Coverage by length as a table.
-- Names: paths, rising and falling are rows of 64 numbers or one number of each: the paths of a length, and how many of their rising and falling faults
-- are held; gates is a length; 32 is a blank.
use Rattle.std.specs.Prelude.{Bool, true, false, ◌&&◌, List, [], ◌++◌, ℕ, ◌+◌, ◌-◌, ◌*◌, min, ltb, leb, length, get_or, take, replicate}
use Rattle.model.specs.Base.{sum_of}
use Rattle.model.specs.Netlist.{max_count}
use Rattle.text_line.specs.Decimal.{decimal_text}
use Rattle.text_line.specs.Lines.{ascii}
use Rattle.text_percent.specs.Shares.{percent_text}
use Rattle.text_buffer.specs.Written.{plain_line, each_below_of}

-- the least bytes of a buffer for the table
abbrev pub table_bytes : ℕ
table_bytes = 16384

-- a text at the right edge of a column, with blanks in front
unfoldable pub aligned : ℕ → List ℕ → List ℕ
aligned width text = replicate (width - length text) 32 ++ text

-- whether the numbers can be a circuit's: some paths and at most 2^62, and of each edge no more faults held than paths
abbrev pub are_held_of : ℕ → ℕ → ℕ → Bool
are_held_of paths rising falling = ltb 0 paths && leb paths max_count && leb rising paths && leb falling paths

-- the percent of the faults of both edges that are held, `83.3 %`; `-` for numbers that can't be a circuit's
unfoldable pub held_share : ℕ → ℕ → ℕ → List ℕ
held_share paths rising falling =
    elim (are_held_of paths rising falling) [
      | true ↦ percent_text (rising + falling) (2 * paths)
      | false ↦ ascii "-"
    ]

-- a line: its name, the paths, the faults held of each edge, the percent
unfoldable pub row_text : List ℕ → ℕ → ℕ → ℕ → List ℕ
row_text name paths rising falling =
    aligned 6 name
    ++ aligned 20 (decimal_text paths)
    ++ aligned 20 (decimal_text rising)
    ++ aligned 20 (decimal_text falling)
    ++ aligned 9 (held_share paths rising falling)

-- the line of a length; none where it has no path
unfoldable pub length_row : ℕ → ℕ → ℕ → ℕ → List ℕ
length_row gates paths rising falling =
    elim (ltb 0 paths) [ true ↦ plain_line (row_text (decimal_text gates) paths rising falling) | false ↦ [] ]

-- the same of rows
abbrev pub row_at : List ℕ → List ℕ → List ℕ → ℕ → List ℕ
row_at paths rising falling gates = length_row gates (get_or paths gates 0) (get_or rising gates 0) (get_or falling gates 0)

-- a number, or the largest of 64 bits where it is more, which no sum of a circuit's rows is
abbrev pub capped : ℕ → ℕ
capped n = min n 18446744073709551615

-- the sum of a row
unfoldable pub total : List ℕ → ℕ
total row = capped (sum_of (take 64 row))

-- the head
abbrev pub head_text : List ℕ
head_text = ascii "length               paths         rising held        falling held  percent"

-- The table: the head, the lengths that have a path, the sums
unfoldable pub table_text : List ℕ → List ℕ → List ℕ → List ℕ
table_text paths rising falling =
    plain_line head_text
    ++ each_below_of (row_at paths rising falling) 64
    ++ plain_line (row_text (ascii "all") (total paths) (total rising) (total falling))
