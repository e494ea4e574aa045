-- `single_simulation::inner::open_pins::input_states` meets its contract. The loop's invariant: the inputs before i are filled in.
use Rattle.model.proofs.Prelude.{◌-◌}
use Rattle.single_simulation.proofs.InputCases.{InputsTo}
use Rattle.single_simulation.proofs.inner.open_pins.input_states.Given as goal

abbrev pub invariant-loop-i : goal.invariant-loop-i
invariant-loop-i l = InputsTo l.v1 l.v2 l.inputs l.i l.states
