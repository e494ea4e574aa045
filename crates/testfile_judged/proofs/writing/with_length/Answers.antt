-- `testfile_judged::with_length` meets its contract: the length that the answer has.
use Rattle.testfile_judged.proofs.TrueReportCases.{answer-cases}
use Rattle.testfile_judged.proofs.writing.with_length.Goals as goal

pub returns-in-Err : goal.returns-in-Err
returns-in-Err c = search answer-cases

pub returns-in-Ok : goal.returns-in-Ok
returns-in-Ok c = search answer-cases
