-- Where things stand among the spans of a record. The code has the same numbers as constants.
use Rattle.std.specs.Prelude.{ℕ}

-- for each of 512 nets the place of its first run; then the place after its last; then by how much its runs are higher than those that stand there
abbrev pub ends_at : ℕ
ends_at = 512

abbrev pub shifts_at : ℕ
shifts_at = 1024

-- then the sections of each edge: 64 begins and the end of the last, then a bit for each of the first outputs whose path numbers all lie in the first held run
abbrev pub rising_sections : ℕ
rising_sections = 1536

abbrev pub falling_sections : ℕ
falling_sections = 1602

-- the places of the sections of both edges, and all places
abbrev pub sections_size : ℕ
sections_size = 132

abbrev pub spans_size : ℕ
spans_size = 1668
