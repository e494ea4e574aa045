-- What the simulation makes of a legal netlist and of a test's two vectors.
use Rattle.std.specs.Prelude.{◌≡◌, Bool, false, List, ℕ, ◌≤◌, ◌<◌, length, get_or}
use Rattle.std.specs.Bool.{beq}
use Rattle.model.specs.Base.{bit}
use Rattle.model.specs.Netlist.{Netlist, nets, pins_of}
use Rattle.model.specs.Detect.{Test, Evaluation, open_pin}
use Rattle.model.specs.Read.{class_of}
use Rattle.gate_logic.specs.States.{state_of}
use Rattle.single_simulation.specs.StateWords.{IsState, state_in}

-- bit j of the word is input j of the vector
pub record VectorIs (N : Netlist) (v : List Bool) (word : ℕ) : Type 0 where
  pub whole : length v ≡ N.inputs
  pub bits : (j : ℕ) → j < N.inputs → bit word j ≡ get_or v j false

-- the words are the two vectors of a test in a class
pub record TestIs (N : Netlist) (t : Test) (class first last : ℕ) : Type 0 where
  pub in_class : t.class ≡ class_of class
  pub first_is : VectorIs N t.v1 first
  pub last_is : VectorIs N t.v2 last

-- what evaluating input j yields, by the words of V1 and V2
abbrev pub input_state_of : ℕ → ℕ → ℕ → Evaluation
input_state_of first last i = state_of (bit first i) (bit last i) (beq (bit first i) (bit last i))

-- an array with a state for each net, those of the inputs by the words
pub record InputStates (first last inputs : ℕ) (array : List ℕ) : Type 0 where
  pub room : length array ≡ 512
  pub each : (i : ℕ) → IsState (get_or array i 0)
  pub same : (i : ℕ) → i < inputs → state_in (get_or array i 0) ≡ input_state_of first last i

-- the open pins of the gates below `top` under a test, a bit for each
pub record MasksTo (N : Netlist) (t : Test) (top : ℕ) (masks : List ℕ) : Type 0 where
  pub opens : (net p : ℕ) → N.inputs ≤ net → net < top → p < length (pins_of N net) → bit (get_or masks net 0) p ≡ open_pin N t net p

-- of all gates
abbrev pub OpenMasks : Netlist → Test → List ℕ → Type 0
OpenMasks N t masks = MasksTo N t (nets N) masks
