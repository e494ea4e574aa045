-- How many runs the nets of a gate's open pins have together.
use Rattle.std.specs.Prelude.{ℕ, zero, suc, ◌+◌, ◌-◌, ◌*◌, ◌≤◌, ◌<◌, Bool, true, false, List, length, get_or}
use Rattle.model.specs.Base.{bit}
use Rattle.netlist.specs.Tables.{pin_count_in, pin_in}

-- a number, only where the test passes
abbrev pub count_if : Bool → ℕ → ℕ
count_if true n = n
count_if false n = 0

-- how many runs a net has, by the starts
abbrev pub run_count : List ℕ → ℕ → ℕ
run_count starts net = get_or starts (net + 1) 0 - get_or starts net 0

-- how many runs the net of a gate's pin has, only where the pin is open
abbrev pub pin_runs_of : List ℕ → ℕ → List ℕ → ℕ → ℕ
pin_runs_of part mask starts pin = count_if (bit mask pin) (run_count starts (pin_in part pin))

-- how many runs the nets of the open ones of a gate's first n pins have together, each pin's for itself
unfoldable pub open_runs_of : List ℕ → ℕ → List ℕ → ℕ → ℕ
open_runs_of part mask starts zero = 0
open_runs_of part mask starts (suc n) = open_runs_of part mask starts n + pin_runs_of part mask starts n

-- a gate's record, and where the runs of its pins' nets begin and end
pub record PinsReady (part starts : List ℕ) : Type 0 where
  pub few_pins : pin_count_in part ≤ 8
  pub inside : 4 + 2 * pin_count_in part ≤ length part
  pub are_nets : (p : ℕ) → p < pin_count_in part → pin_in part p < 512
  pub ordered : (p : ℕ) → p < pin_count_in part → get_or starts (pin_in part p) 0 ≤ get_or starts (pin_in part p + 1) 0
