-- `block_intervals::nets::more_pins` meets its contract: the list holds what the pins that are no longer left add.
use Rattle.block_intervals.proofs.PinSpanSteps.{pin-cases}
use Rattle.block_intervals.proofs.nets.more_pins.Goals as goal

pub loop-left-init : goal.loop-left-init
loop-left-init c = search pin-cases

pub overflow_cast-pin : goal.overflow_cast-pin
overflow_cast-pin c = search pin-cases

pub overflow_add-first : goal.overflow_add-first
overflow_add-first c = search pin-cases

pub add_pin-requires : goal.add_pin-requires
add_pin-requires c = search pin-cases

pub returns-in_err-count : goal.returns-in_err-count
returns-in_err-count c = rw c.from_residual.ensures (search (c.in_err-count.was, pin-cases))

pub overflow_sub-left : goal.overflow_sub-left
overflow_sub-left c = search pin-cases

pub loop-left-smaller : goal.loop-left-smaller
loop-left-smaller c = search pin-cases

pub loop-left-preserved : goal.loop-left-preserved
loop-left-preserved c = search (c.in_ok-count.was, pin-cases)

pub shape_of-words : goal.shape_of-words
shape_of-words c = search pin-cases

pub returns : goal.returns
returns c = search pin-cases
