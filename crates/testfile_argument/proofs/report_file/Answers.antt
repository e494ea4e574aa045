-- `testfile_argument::report_file` meets its contract: what it returns is told of the file by `report_stream`; only whether it may be judged by is the file's closing.
use Rattle.model.proofs.Prelude.{rules}
use Rattle.testfile_argument.proofs.NamedTestCases.{named-test-cases}
use Rattle.testfile_argument.proofs.report_file.Goals as goal

pub returns : goal.returns
returns g c = (search named-test-cases, search rules)
