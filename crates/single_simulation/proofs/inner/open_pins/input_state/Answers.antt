-- `single_simulation::inner::open_pins::input_state` meets its contract: two digits and whether they agree.
use Rattle.model.proofs.Prelude.{◌∙◌}
use Rattle.single_simulation.proofs.InputCases.{digit-state}
use Rattle.single_simulation.proofs.inner.open_pins.input_state.Goals as goal

pub returns : goal.returns
returns c =
    let a = c.args in
    c.state_word.ensures ∙ digit-state a.v1 a.v2 a.input _ _ c.input_value-first.ensures c.input_value-last.ensures
