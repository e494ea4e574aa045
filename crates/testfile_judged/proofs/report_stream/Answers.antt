-- `testfile_judged::report_stream` meets its contract: a refusal at the beginning, or the report of a file that was walked over.
use Rattle.model.proofs.Prelude.{rules}
use Rattle.testfile_judged.proofs.StreamCases.{stream-cases}
use Rattle.testfile_judged.proofs.report_stream.Goals as goal

pub walk_file-walk-requires : goal.walk_file-walk-requires
walk_file-walk-requires c = (search stream-cases, search stream-cases)

pub true_report-written-requires : goal.true_report-written-requires
true_report-written-requires c = search stream-cases

pub returns-in-Err : goal.returns-in-Err
returns-in-Err c = (search stream-cases, search rules)

pub returns-in-Err-tables : goal.returns-in-Err-tables
returns-in-Err-tables c = (search stream-cases, search rules)

pub returns-in-Ok-tables : goal.returns-in-Ok-tables
returns-in-Ok-tables c = (search stream-cases, search rules)
