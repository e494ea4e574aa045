-- `load_records::inner::put_test` meets its contract: mark, V1 and V2, one after the other.
use Rattle.load_records.proofs.TestPutLaws.{test-put-cases}
use Rattle.load_records.proofs.inner.put_test.Goals as goal

pub returns : goal.returns
returns c = search test-put-cases
