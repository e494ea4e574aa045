-- `report_differences::inner::walk::seek` meets its contract. The invariant: the runs before the place end before the number.
use Rattle.report_differences.proofs.RunCases.{passed-run, reached-run, reached-end}
use Rattle.report_differences.proofs.inner.walk.seek.Goals as goal

pub loop-at-init : goal.loop-at-init
loop-at-init c = c.requires

pub returns-then-number-number_at : goal.returns-then-number-number_at
returns-then-number-number_at c =
    reached-run c.args.runs.now c.loop-at.at c.args.number c.number_at.result c.number_at.ensures c.if-number-number_at.true c.loop-at.invariant

pub loop-at-preserved : goal.loop-at-preserved
loop-at-preserved c =
    passed-run c.args.runs.now c.loop-at.at c.args.number c.number_at.result c.loop-at-test.true c.number_at.ensures c.if-number-number_at.false c.loop-at.invariant

pub returns : goal.returns
returns c =
    reached-end c.args.runs.now c.loop-at.at c.args.number c.loop-at-test.false c.loop-at.invariant
