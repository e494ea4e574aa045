-- `load_vectors::next_state` meets its contract: the sum does not leave 64 bits, and the remainder is the step.
use Rattle.load_vectors.proofs.DrawSteps.{step_is}
use Rattle.load_vectors.proofs.next_state.Goals as goal

pub returns : goal.returns
returns c = step_is c.args.state
