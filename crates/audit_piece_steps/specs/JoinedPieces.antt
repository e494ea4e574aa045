-- A file cut into pieces, and the test calls with the records of one piece after the other.
use Rattle.std.specs.Prelude.{◌≡◌, List, [], ◌∷◌, ◌++◌, ℕ, ◌%◌, length}
use Rattle.model.specs.Base.{Answer}
use Rattle.model.specs.Netlist.{Netlist}
use Rattle.model.specs.Detect.{Class}
use Rattle.model.specs.Read.{record_length}
use Rattle.audit_piece_steps.specs.Steps.{with_piece}

-- the file that the pieces make
abbrev pub joined : List (List ℕ) → List ℕ
joined [] = []
joined (p ∷ ps) = p ++ joined ps

-- each piece but the last is a whole number of records
abbrev pub WholeButLast : Netlist → List (List ℕ) → Type 0
WholeButLast N [] = Unit {0}
WholeButLast N (p ∷ []) = Unit {0}
WholeButLast N (p ∷ q ∷ ps) = (length p % record_length N ≡ 0) × WholeButLast N (q ∷ ps)

-- the pieces in order, all in one class
unfoldable pub with_pieces : Netlist → Class → List (List ℕ) → Answer (List ℕ) → Answer (List ℕ)
with_pieces N c [] x = x
with_pieces N c (p ∷ ps) x = with_pieces N c ps (with_piece N c p x)
