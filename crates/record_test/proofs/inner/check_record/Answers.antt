-- `record_test::inner::check_record` meets its contract: each return is one case of the place Test.
use Rattle.record_test.proofs.RecordCases.{record-cases}
use Rattle.record_test.proofs.inner.check_record.Goals as goal

pub returns-then-test-bytes : goal.returns-then-test-bytes
returns-then-test-bytes c = search record-cases

pub returns-then-not-marked : goal.returns-then-not-marked
returns-then-not-marked c = search record-cases

pub returns-then-not-v1_zero : goal.returns-then-not-v1_zero
returns-then-not-v1_zero c = search record-cases

pub returns-then-not-v2_zero : goal.returns-then-not-v2_zero
returns-then-not-v2_zero c = search record-cases

pub returns-then-not-changed : goal.returns-then-not-changed
returns-then-not-changed c = search record-cases

pub returns : goal.returns
returns c = search record-cases
