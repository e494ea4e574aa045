-- `testfile_argument::store_of_tests` meets its contract: where a report has a length its tests were taken.
use Rattle.testfile_argument.proofs.NamedTestCases.{named-test-cases}
use Rattle.testfile_argument.proofs.store_of_tests.Goals as goal

pub returns : goal.returns
returns g c = search named-test-cases
