-- `netlist_gates::inner::pins_lower` meets its contract: whether the pins that are left are lower says it of all pins.
use Rattle.model.proofs.Prelude.{◌+◌, ◌-◌, ◌*◌, ◌≡◌}
use Rattle.netlist_gates.specs.GateReading.{pins_lower_of}
use Rattle.netlist_gates.proofs.inner.pins_lower.Given as goal

abbrev pub invariant-loop-k : goal.invariant-loop-k
invariant-loop-k l = pins_lower_of l.net (l.pins - l.k) (4 + 2 * l.k) l.part ≡ pins_lower_of l.net l.pins 4 l.part
