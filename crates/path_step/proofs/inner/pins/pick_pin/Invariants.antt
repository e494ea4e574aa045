-- `path_step::inner::pins::pick_pin` meets its contract: the choice among the pins that are left, at the number that is left, is the whole choice.
use Rattle.model.proofs.Prelude.{◌≤◌, ◌<◌, ◌-◌}
use Rattle.netlist.specs.Tables.{pin_count_in}
use Rattle.path_step.specs.Picks.{pin_counts_in}
use Rattle.path_step.proofs.SplitLaws.{Passed}
use Rattle.path_step.proofs.inner.pins.pick_pin.Given as goal

abbrev pub invariant-loop-pin : goal.invariant-loop-pin
invariant-loop-pin l = (l.pins ≤ pin_count_in l.part) × (pin_count_in l.part ≤ l.pins) × (l.pin < l.pins) × Passed (pin_counts_in l.part l.counts) l.number l.pin l.rest

abbrev pub decreases-loop-pin : goal.decreases-loop-pin
decreases-loop-pin l = l.pins - l.pin
