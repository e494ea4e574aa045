-- `single_simulation::inner::open_pins::input_value` meets its contract: the lowest bit of the shifted word.
use Rattle.model.proofs.Prelude.{arith}
use Rattle.record_bytes.proofs.BitLaws.{word-digit}
use Rattle.single_simulation.proofs.inner.open_pins.input_value.Goals as goal

pub overflow_cast-result : goal.overflow_cast-result
overflow_cast-result c = omega (arith, (word-digit c.args.vector c.args.input).0)

pub returns : goal.returns
returns c = word-digit c.args.vector c.args.input
