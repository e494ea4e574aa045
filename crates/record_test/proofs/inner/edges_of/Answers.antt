-- `record_test::inner::edges_of` meets its contract, bit by bit.
use Rattle.record_test.proofs.RecordCases.{edges-true}
use Rattle.record_test.proofs.inner.edges_of.Goals as goal

pub returns : goal.returns
returns c = edges-true c.args.tested
