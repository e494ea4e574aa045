-- `report_runs::ascends_at` meets its contract: each return is one case of the run.
use Rattle.model.proofs.Prelude.{arith}
use Rattle.report_runs.proofs.OrderCases.{empty-run, first_run, later-run}
use Rattle.report_runs.proofs.ascends_at.Goals as goal

pub returns-then-high-low : goal.returns-then-high-low
returns-then-high-low c = let a = c.args in empty-run a.at a.last a.low a.high (omega arith)

pub returns-then-at-eq0 : goal.returns-then-at-eq0
returns-then-at-eq0 c =
    let a = c.args in
    first_run a.at a.last a.low a.high (omega arith) (omega arith)

pub returns : goal.returns
returns c =
    let a = c.args in
    later-run a.at a.last a.low a.high (omega arith) (omega arith)
