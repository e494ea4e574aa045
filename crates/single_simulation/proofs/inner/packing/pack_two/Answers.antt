-- `single_simulation::inner::packing::pack_two` meets its contract: the second pin is packed, then the first.
use Rattle.model.proofs.Prelude.{arith}
use Rattle.single_simulation.proofs.PackStates.{first-net, second-net, two-fit, two-packed}
use Rattle.single_simulation.proofs.inner.packing.pack_two.Goals as goal

pub pin_net-first-requires : goal.pin_net-first-requires
pin_net-first-requires c = let ready = c.requires in omega (arith, ready.inside)

pub pin_net-second-requires : goal.pin_net-second-requires
pin_net-second-requires c = let ready = c.requires in omega (arith, ready.inside)

pub offset_bounds-states-second : goal.offset_bounds-states-second
offset_bounds-states-second c = let ready = c.requires in omega (arith, second-net ready c.pin_net-second.ensures)

pub bounds-states-second : goal.bounds-states-second
bounds-states-second c = let ready = c.requires in second-net ready c.pin_net-second.ensures

pub overflow_mul-result : goal.overflow_mul-result
overflow_mul-result c =
    let ready = c.requires in
    omega (arith, two-fit ready c.pin_net-second.ensures 0)

pub offset_bounds-states-first : goal.offset_bounds-states-first
offset_bounds-states-first c = let ready = c.requires in omega (arith, first-net ready c.pin_net-first.ensures)

pub bounds-states-first : goal.bounds-states-first
bounds-states-first c = let ready = c.requires in first-net ready c.pin_net-first.ensures

pub overflow_add-result : goal.overflow_add-result
overflow_add-result c =
    let ready = c.requires in
    omega (arith, two-fit ready c.pin_net-second.ensures c.pin_net-first.result)

pub returns : goal.returns
returns c =
    let ready = c.requires in
    two-packed ready c.pin_net-second.ensures c.pin_net-first.ensures
