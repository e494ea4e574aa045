-- `path_step::inner::pins::count_before` meets its contract: the sum so far is that of the counts before the pin at hand.
use Rattle.path_step.proofs.PinCases.{pins-before-cases}
use Rattle.path_step.proofs.inner.pins.count_before.Goals as goal

pub loop-before-init : goal.loop-before-init
loop-before-init c = search pins-before-cases

pub pin_net-net-requires : goal.pin_net-net-requires
pin_net-net-requires c = search pins-before-cases

pub offset_bounds-counts-net : goal.offset_bounds-counts-net
offset_bounds-counts-net c = search pins-before-cases

pub bounds-counts-net : goal.bounds-counts-net
bounds-counts-net c = search pins-before-cases

pub overflow_add-sum : goal.overflow_add-sum
overflow_add-sum c = search pins-before-cases

pub loop-before-preserved : goal.loop-before-preserved
loop-before-preserved c = search pins-before-cases

pub returns : goal.returns
returns c = search pins-before-cases
