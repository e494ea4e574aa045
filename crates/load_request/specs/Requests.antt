-- What load.bin asks for, low byte first.
use Rattle.std.specs.Prelude.{true, false, List, ℕ, eqb, length, Option, Some, None}
use Rattle.model.specs.Base.{field}

-- load.bin, low byte first: seed and vectors of 4 bytes each, inputs of 2
pub record Request : Type 0 where
  pub seed : ℕ
  pub vectors : ℕ
  pub inputs : ℕ

abbrev pub request_bytes : ℕ
request_bytes = 10

-- what load.bin asks for: nothing where it has another length
unfoldable pub request_of : List ℕ → Option Request
request_of bs =
    elim (eqb (length bs) request_bytes) [
      | true ↦ Some (record { seed = field 0 4 bs; vectors = field 4 4 bs; inputs = field 8 2 bs })
      | false ↦ None
    ]
