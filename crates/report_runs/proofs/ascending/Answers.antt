-- `report_runs::ascending` meets its contract: runs ascend where none is out of order.
use Rattle.model.proofs.Prelude.{rules}
use Rattle.report_runs.proofs.AscendLaws.{ordered-all, ordered-not}
use Rattle.report_runs.proofs.ascending.Goals as goal

pub returns-in-Ok : goal.returns-in-Ok
returns-in-Ok c = search (ordered-all, ordered-not, rules)

pub returns-in-Err : goal.returns-in-Err
returns-in-Err c = search (ordered-all, ordered-not, rules)
