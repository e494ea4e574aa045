-- `record_test::inner::read_vectors` meets its contract: each word has the bits of its part of the record.
use Rattle.model.proofs.Prelude.{rules}
use Rattle.record_test.proofs.RecordCases.{vectors-true}
use Rattle.record_test.proofs.inner.read_vectors.Goals as goal

pub returns : goal.returns
returns c = search (vectors-true, rules)
