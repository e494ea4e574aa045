-- `single_simulation::inner::open_pins::open_masks` meets its contract. The loop's invariant: the states and the open pins of the nets before `net`
-- are those of the test in its class, for every netlist that the bytes are. In a need `t` is the state after the loop's test, `g` after the gate's
-- part is taken, `p` after the states at its pins are packed.
use Rattle.model.proofs.Prelude.{◌-◌}
use Rattle.single_simulation.proofs.OpenCases.{Simulating}
use Rattle.single_simulation.proofs.inner.open_pins.open_masks.Given as goal

abbrev pub invariant-loop-net : goal.invariant-loop-net
invariant-loop-net l = Simulating l.netlist l.positions l.fn.shape l.class l.v1 l.v2 l.states l.masks l.net
