-- Where things stand in the table of path offsets and in the marks of a block's records. The code has the same numbers as constants.
use Rattle.std.specs.Prelude.{List, ℕ, ◌+◌, get_or}

-- the table of path offsets: eight places for the pins of each of 512 gates; then the paths before each of 64 outputs; then the outputs' nets
abbrev pub output_offsets_at : ℕ
output_offsets_at = 4096

abbrev pub output_nets_at : ℕ
output_nets_at = 4160

abbrev pub offset_table_size : ℕ
offset_table_size = 4224

-- the net of output o, as the table of path offsets has it
abbrev pub out_at : List ℕ → ℕ → ℕ
out_at offsets o = get_or offsets (output_nets_at + o) 0

-- the marks: a place for each of 64 records, for the inputs that rise, then for those that fall; then for the live outputs of the rising and of the falling
-- edge; then for the lengths of the lists of both
abbrev pub up_outs_at : ℕ
up_outs_at = 128

abbrev pub down_outs_at : ℕ
down_outs_at = 192

abbrev pub up_lengths_at : ℕ
up_lengths_at = 256

abbrev pub down_lengths_at : ℕ
down_lengths_at = 320

abbrev pub marks_size : ℕ
marks_size = 384
