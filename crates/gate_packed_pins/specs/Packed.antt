-- Values packed into a number; a gate's pins packed into a byte, pin 0 in the lowest bit.
use Rattle.std.specs.Prelude.{Bool, true, false, List, [], ◌∷◌, ℕ, zero, suc, ◌+◌, ◌-◌, ◌*◌, ◌/◌, ◌%◌, ◌^◌, ◌≤◌, ◌<◌, T, eqb}
use Rattle.std.specs.Int.Bits.{bit_and}
use Rattle.model.specs.Detect.{odd}
use Rattle.model.specs.Read.{pins_fit}

-- the values in the n lowest bits, the lowest first
unfoldable pub bits_in : ℕ → ℕ → List Bool
bits_in zero b = []
bits_in (suc n) b = eqb (b % 2) 1 ∷ bits_in n (b / 2)

-- a value as a bit
abbrev pub one_where_of : Bool → ℕ
one_where_of true = 1
one_where_of false = 0

-- values packed into a number, the first in the lowest bit
abbrev pub pack_bits : List Bool → ℕ
pack_bits [] = 0
pack_bits (v ∷ vs) = one_where_of v + 2 * pack_bits vs

-- an odd number of ones in a byte
unfoldable pub parity_of : ℕ → Bool
parity_of b = odd (bits_in 8 b)

-- the pins of which every other pin is outside the set `c`: all of them where it is empty, its one pin where it has one, else none
unfoldable pub open_set_of : ℕ → ℕ → ℕ
open_set_of full c = elim (eqb c 0) [ true ↦ full | false ↦ elim (eqb (bit_and c (c - 1)) 0) [ true ↦ c | false ↦ 0 ] ]

-- a kind with as many pins as it may have, and their values
pub record PackedPins (kind pins packed : ℕ) : Type 0 where
  pub low_kind : 1 ≤ kind
  pub high_kind : kind ≤ 8
  pub fits : T (pins_fit kind pins)
  pub small : packed < 2 ^ pins
