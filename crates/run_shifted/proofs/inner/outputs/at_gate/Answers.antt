-- `run_shifted::inner::outputs::at_gate` meets its contract: the test that the code makes.
use Rattle.model.proofs.Prelude.{sym, arith, le-leb, lt-leb}
use Rattle.run_shifted.proofs.inner.outputs.at_gate.Goals as goal

pub returns-then-net-inputs : goal.returns-then-net-inputs
returns-then-net-inputs c = (omega arith, sym (lt-leb c.args.inputs c.args.net c.if-net-inputs.true))

pub returns : goal.returns
returns c = (omega arith, sym (le-leb c.args.inputs c.args.net c.if-net-inputs.false))
