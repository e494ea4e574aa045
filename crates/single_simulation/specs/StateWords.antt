-- The states of nets in an array of words, and packed for the pins of a gate.
use Rattle.std.specs.Prelude.{◌≡◌, List, map, ℕ, ◌+◌, ◌*◌, ◌/◌, ◌%◌, ◌^◌, ◌≤◌, ◌<◌, eqb, length, get_or, drop}
use Rattle.model.specs.Detect.{Evaluation}
use Rattle.model.specs.Read.{net_fields}
use Rattle.netlist.specs.Tables.{pin_in}
use Rattle.gate_logic.specs.States.{state_of, pins_in}

-- the three bytes of a word: under V2, under V1, steady
abbrev pub low_lane : ℕ → ℕ
low_lane w = w % 256

abbrev pub mid_lane : ℕ → ℕ
mid_lane w = w / 256 % 256

abbrev pub high_lane : ℕ → ℕ
high_lane w = w / 65536

-- the state that a word is
abbrev pub state_in : ℕ → Evaluation
state_in w = state_of (eqb (mid_lane w) 1) (eqb (low_lane w) 1) (eqb (high_lane w) 1)

-- a word with a bit in each of the three bytes
pub record IsState (w : ℕ) : Type 0 where
  pub low : low_lane w < 2
  pub mid : mid_lane w < 2
  pub high : high_lane w < 2

-- a part that begins with a gate's record of so many pins, each of which names a net of the array, and the array holds states
pub record StatesAt (part : List ℕ) (pins : ℕ) (array : List ℕ) : Type 0 where
  pub few : pins ≤ 8
  pub inside : 4 + 2 * pins ≤ length part
  pub is_net : (p : ℕ) → p < pins → pin_in part p < 512
  pub states : (i : ℕ) → IsState (get_or array i 0)

-- the states at nets, from an array with a word for each net
abbrev pub states_at : List ℕ → List ℕ → List Evaluation
states_at array ns = map (λ net. state_in (get_or array net 0)) ns

-- the states at the pins, packed
pub record PacksStates (part : List ℕ) (pins : ℕ) (array : List ℕ) (packed : ℕ) : Type 0 where
  pub low : low_lane packed < 2 ^ pins
  pub mid : mid_lane packed < 2 ^ pins
  pub high : high_lane packed < 2 ^ pins
  pub states : pins_in pins (mid_lane packed) (low_lane packed) (high_lane packed) ≡ states_at array (net_fields pins (drop 4 part))
