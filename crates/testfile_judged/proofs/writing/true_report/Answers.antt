-- `testfile_judged::true_report` meets its contract: no report after a refusal, else the writer's, which lies in the buffer.
use Rattle.testfile_judged.proofs.TrueReportCases.{wrote-cases}
use Rattle.testfile_judged.proofs.writing.true_report.Goals as goal

pub returns-in-Err : goal.returns-in-Err
returns-in-Err c = search wrote-cases

pub returns-in-Ok : goal.returns-in-Ok
returns-in-Ok c = search wrote-cases
