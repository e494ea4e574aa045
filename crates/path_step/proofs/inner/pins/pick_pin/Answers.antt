-- `path_step::inner::pins::pick_pin` meets its contract: the choice among the pins that are left, at the number that is left, is the whole choice.
use Rattle.path_step.proofs.PinCases.{pick-cases}
use Rattle.path_step.proofs.inner.pins.pick_pin.Goals as goal

pub bounds-part-3 : goal.bounds-part-3
bounds-part-3 c = search pick-cases

pub wide-pins-requires : goal.wide-pins-requires
wide-pins-requires c = search pick-cases

pub loop-pin-init : goal.loop-pin-init
loop-pin-init c = search pick-cases

pub overflow_add-pin : goal.overflow_add-pin
overflow_add-pin c = search pick-cases

pub pin_net-net-requires : goal.pin_net-net-requires
pin_net-net-requires c = search pick-cases

pub offset_bounds-counts-net : goal.offset_bounds-counts-net
offset_bounds-counts-net c = search pick-cases

pub bounds-counts-net : goal.bounds-counts-net
bounds-counts-net c = search pick-cases

pub returns-then-rest-count : goal.returns-then-rest-count
returns-then-rest-count c = search pick-cases

pub overflow_sub-rest : goal.overflow_sub-rest
overflow_sub-rest c = search pick-cases

pub overflow_add-pin-in-loop-pin : goal.overflow_add-pin-in-loop-pin
overflow_add-pin-in-loop-pin c = search pick-cases

pub loop-pin-smaller : goal.loop-pin-smaller
loop-pin-smaller c = search pick-cases

pub loop-pin-preserved : goal.loop-pin-preserved
loop-pin-preserved c = search pick-cases

pub pin_net-net-requires-2 : goal.pin_net-net-requires-2
pin_net-net-requires-2 c = search pick-cases

pub returns : goal.returns
returns c = search pick-cases
