-- `block_intervals::nets::more_pins` meets its contract: the list holds what the pins that are no longer left add.
use Rattle.block_intervals.proofs.PinSpanSteps.{PinsAdding}
use Rattle.block_intervals.proofs.nets.more_pins.Given as goal

abbrev pub invariant-loop-left : goal.invariant-loop-left
invariant-loop-left l = PinsAdding l.table l.offsets l.first l.byte l.spans l.initial.words l.made l.words l.left l.count

abbrev pub decreases-loop-left : goal.decreases-loop-left
decreases-loop-left l = l.left
