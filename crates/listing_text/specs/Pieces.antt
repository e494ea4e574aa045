-- A test file that is listed in pieces.
use Rattle.std.specs.Prelude.{◌≡◌, List, [], ◌∷◌, ◌++◌, ℕ, ◌+◌, ◌*◌, length}
use Rattle.model.specs.Netlist.{Netlist}
use Rattle.model.specs.Detect.{Class}
use Rattle.model.specs.Read.{record_length}
use Rattle.listing_text.specs.Listing.{record_lines, store_after_all, listed_records}

-- the pieces end to end
abbrev pub joined : List (List ℕ) → List ℕ
joined [] = []
joined (p ∷ ps) = p ++ joined ps

-- each piece but the last is a whole number of records
abbrev pub WholeButLast : Netlist → List (List ℕ) → Type 0
WholeButLast N [] = Unit {0}
WholeButLast N (p ∷ []) = Unit {0}
WholeButLast N (p ∷ q ∷ ps) = ((k : ℕ) × (length p ≡ k * record_length N)) × WholeButLast N (q ∷ ps)

-- the lines of the records of each piece, each on the store that the piece before left
abbrev pub piece_lines : Netlist → Class → ℕ → List (List ℕ) → List ℕ → List ℕ
piece_lines N c place [] ws = []
piece_lines N c place (p ∷ ps) ws =
    record_lines N c place (listed_records N p) ws ++ piece_lines N c (place + length (listed_records N p)) ps (store_after_all N c (listed_records N p) ws)

abbrev pub store_after_pieces : Netlist → Class → List (List ℕ) → List ℕ → List ℕ
store_after_pieces N c [] ws = ws
store_after_pieces N c (p ∷ ps) ws = store_after_pieces N c ps (store_after_all N c (listed_records N p) ws)
