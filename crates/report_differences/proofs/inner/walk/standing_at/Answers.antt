-- `report_differences::inner::walk::standing_at` meets its contract: the run at the place tells.
use Rattle.report_differences.proofs.RunCases.{past_all, before-run, inside-run}
use Rattle.report_differences.proofs.inner.walk.standing_at.Goals as goal

pub returns-then-runs-at : goal.returns-then-runs-at
returns-then-runs-at c =
    past_all c.args.runs.now c.args.at c.args.number c.requires c.if-runs-at.true

pub returns-then-number-low : goal.returns-then-number-low
returns-then-number-low c =
    before-run c.args.runs.now c.args.at c.args.number c.requires c.if-runs-at.false c.number_at-low.result c.number_at-low.ensures c.if-number-low.true

pub returns : goal.returns
returns c =
    inside-run c.args.runs.now c.args.at c.args.number c.requires c.if-runs-at.false c.number_at-low.result c.number_at-low.ensures c.number_at.result c.number_at.ensures c.if-number-low.false
