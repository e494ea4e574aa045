-- Where things stand in the tables of a block of records. The code has the same numbers as constants.
use Rattle.std.specs.Prelude.{ℕ, ◌*◌}

-- the table of gates: eight places for the nets at the pins of each of 512 gates; then their kinds; then their numbers of pins
abbrev pub kinds_at : ℕ
kinds_at = 4096

abbrev pub pin_counts_at : ℕ
pin_counts_at = 4608

abbrev pub gate_table_size : ℕ
gate_table_size = 5120

-- the words of the nets: eight places for each of 512
abbrev pub nets_size : ℕ
nets_size = 4096

-- the places of a record's list of live gates, and those of the lists of 64 records
abbrev pub list_size : ℕ
list_size = 528

abbrev pub lists_size : ℕ
lists_size = 64 * list_size
