-- `report_verdict::verdict_line` meets its contract: each answer's text alone on a line.
use Rattle.model.proofs.Prelude.{rules}
use Rattle.report_verdict.proofs.VerdictLaws.{line-cases}
use Rattle.report_verdict.proofs.verdict_line.Goals as goal

pub returns-in-Ok : goal.returns-in-Ok
returns-in-Ok c = search line-cases

pub returns-in-Err : goal.returns-in-Err
returns-in-Err c = search (line-cases, rules)
