-- A file that is read in pieces to a space: what the space then holds of it.
use Rattle.std.specs.Prelude.{◌≡◌, List, ℕ, ◌+◌, ◌≤◌, length, take}
use Rattle.model.specs.Base.{value}
use Rattle.model.specs.Netlist.{Netlist}
use Rattle.model.specs.Read.{read_netlist, record_length}

-- A file that fits the space, with room for one record more, is what the space holds: it was read as one piece
abbrev pub InSpace : List ℕ → List ℕ → List ℕ → Type 0
InSpace netlist test_file space =
    (N : Netlist) → read_netlist netlist ≡ value N → length test_file + record_length N ≤ length space → test_file ≡ take (length test_file) space
