-- `single_simulation::inner::open_pins::open_masks` meets its contract. The loop's invariant: the states and the open pins of the nets before `net`
-- are those of the test in its class, for every netlist that the bytes are. In a need `t` is the state after the loop's test, `g` after the gate's
-- part is taken, `p` after the states at its pins are packed.
use Rattle.model.proofs.Prelude.{◌-◌}
use Rattle.single_simulation.proofs.OpenCases.{open-cases}
use Rattle.single_simulation.proofs.inner.open_pins.open_masks.Goals as goal

pub input_states-states-requires : goal.input_states-states-requires
input_states-states-requires c = search open-cases

pub loop-net-init : goal.loop-net-init
loop-net-init c = search open-cases

pub gate_part-part-requires : goal.gate_part-part-requires
gate_part-part-requires c = search open-cases

pub bounds-part-2 : goal.bounds-part-2
bounds-part-2 c = search open-cases

pub bounds-part-3 : goal.bounds-part-3
bounds-part-3 c = search open-cases

pub wide-requires : goal.wide-requires
wide-requires c = search open-cases

pub pack_states-packed-requires : goal.pack_states-packed-requires
pack_states-packed-requires c = search open-cases

pub pin_states-at_pins-requires : goal.pin_states-at_pins-requires
pin_states-at_pins-requires c = search open-cases

pub class_pins-requires : goal.class_pins-requires
class_pins-requires c = search open-cases

pub bounds-masks-net : goal.bounds-masks-net
bounds-masks-net c = search open-cases

pub evaluate-requires : goal.evaluate-requires
evaluate-requires c = search open-cases

pub offset_bounds-states-net : goal.offset_bounds-states-net
offset_bounds-states-net c = search open-cases

pub bounds-states-net : goal.bounds-states-net
bounds-states-net c = search open-cases

pub loop-net-preserved : goal.loop-net-preserved
loop-net-preserved c = search open-cases

pub returns : goal.returns
returns c = search open-cases
