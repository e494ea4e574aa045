-- What evaluating a net yields, as a word and packed for the pins of a gate.
use Rattle.std.specs.Prelude.{Bool, ◌||◌, not, List, [], ◌∷◌, ℕ, zero, suc, ◌+◌, ◌*◌, ◌/◌, ◌%◌, eqb}
use Rattle.std.specs.Int.Bits.{bit_and}
use Rattle.model.specs.Detect.{Evaluation}
use Rattle.gate_packed_pins.specs.Packed.{one_where_of, PackedPins}
use Rattle.gate_logic.specs.declared.inner.PinStates.{PinStates}

-- a state from its parts
abbrev pub state_of : Bool → Bool → Bool → Evaluation
state_of v1 v2 steady = record { under_v1 = v1; under_v2 = v2; steady = steady }

-- a net's state as a word
abbrev pub word_of : Evaluation → ℕ
word_of n = one_where_of n.under_v2 + 256 * one_where_of n.under_v1 + 65536 * one_where_of n.steady

-- the pins of a gate, from their packed values under V1 and V2 and their packed steadiness
unfoldable pub pins_in : ℕ → ℕ → ℕ → ℕ → List Evaluation
pins_in zero a b s = []
pins_in (suc n) a b s = state_of (eqb (a % 2) 1) (eqb (b % 2) 1) (eqb (s % 2) 1) ∷ pins_in n (a / 2) (b / 2) (s / 2)

-- a kind with as many pins as it may have, and their states
pub record PackedStates (kind pins : ℕ) (p : PinStates) : Type 0 where
  pub first : PackedPins kind pins p.v1
  pub last : PackedPins kind pins p.v2
  pub calm : PackedPins kind pins p.steady

-- all pins are steady, or one of the set `controlling` is
abbrev pub steady_by_of : ℕ → ℕ → ℕ → Bool
steady_by_of full steady controlling = eqb steady full || not (eqb (bit_and steady controlling) 0)
