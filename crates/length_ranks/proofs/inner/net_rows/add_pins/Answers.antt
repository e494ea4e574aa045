-- `length_ranks::inner::net_rows::add_pins` meets its contract: the rows of the pins before the one at hand are added.
use Rattle.model.proofs.Prelude.{◌-◌}
use Rattle.length_ranks.proofs.PinSumCases.{pins-cases, pins-room}
use Rattle.length_ranks.proofs.inner.net_rows.add_pins.Goals as goal

pub loop-pin-init : goal.loop-pin-init
loop-pin-init c = search pins-cases

pub pin_net-net-requires : goal.pin_net-net-requires
pin_net-net-requires c = search pins-cases

pub offset_bounds-rows-net : goal.offset_bounds-rows-net
offset_bounds-rows-net c = search pins-cases

pub bounds-rows-net : goal.bounds-rows-net
bounds-rows-net c = search pins-cases

pub add_longer-requires : goal.add_longer-requires
add_longer-requires c =
    let start = c.requires in
    pins-room _ _ _ _ start.2 start.0 _ start.1 _ c.loop-pin-test.true _ c.pin_net-net.ensures _ c.loop-pin.invariant.1

pub loop-pin-preserved : goal.loop-pin-preserved
loop-pin-preserved c = search pins-cases

pub returns : goal.returns
returns c = search pins-cases
