-- `netlist_gates::inner::pin_sum` meets its contract: what is left of 2^62 and the sum over the pins that are left say what the whole is, and the test
-- before each subtraction keeps what is left from going below 0.
use Rattle.model.proofs.Prelude.{◌≤◌, ◌+◌, ◌-◌, ◌*◌, ◌^◌, ◌≡◌, true}
use Rattle.netlist_gates.specs.GateReading.{pins_lower_of, pin_sum_of}
use Rattle.netlist_gates.proofs.inner.pin_sum.Given as goal

abbrev pub invariant-loop-k : goal.invariant-loop-k
invariant-loop-k l =
    (l.room ≤ 2 ^ 62)
    × (pins_lower_of 512 (l.pins - l.k) (4 + 2 * l.k) l.part ≡ true)
    × (2 ^ 62 + pin_sum_of l.counts (l.pins - l.k) (4 + 2 * l.k) l.part ≡ l.room + pin_sum_of l.counts l.pins 4 l.part)
