-- `testfile_argument::report_of_tests` meets its contract: nothing is told of a file that was not read whole, of another the length that is told of the file by its name.
use Rattle.model.proofs.Prelude.{rules}
use Rattle.testfile_argument.proofs.NamedTestCases.{named-test-cases}
use Rattle.testfile_argument.proofs.report_of_tests.Goals as goal

pub returns : goal.returns
returns g c = (search named-test-cases, search rules)

pub returns-then-not-reported : goal.returns-then-not-reported
returns-then-not-reported g c = (search named-test-cases, search rules)
