-- `single_simulation::inner::open_pins::input_states` meets its contract. The loop's invariant: the inputs before i are filled in.
use Rattle.model.proofs.Prelude.{◌-◌, arith, rules}
use Rattle.single_simulation.proofs.InputCases.{inputs-start, inputs-more, inputs_end}
use Rattle.single_simulation.proofs.inner.open_pins.input_states.Goals as goal

pub loop-i-init : goal.loop-i-init
loop-i-init c = inputs-start c.args.v1 c.args.v2 c.args.inputs

pub input_state-requires : goal.input_state-requires
input_state-requires c = omega (arith, c.loop-i-test.true, c.requires)

pub offset_bounds-states-i : goal.offset_bounds-states-i
offset_bounds-states-i c = omega (arith, c.loop-i-test.true, c.requires)

pub bounds-states-i : goal.bounds-states-i
bounds-states-i c = omega (arith, c.loop-i-test.true, c.requires)

pub loop-i-preserved : goal.loop-i-preserved
loop-i-preserved c =
    inputs-more _ _ _ _ _ _ c.requires c.loop-i-test.true c.loop-i.invariant c.input_state.ensures

pub returns : goal.returns
returns c = inputs_end _ _ _ _ _ (search rules) c.loop-i.invariant
