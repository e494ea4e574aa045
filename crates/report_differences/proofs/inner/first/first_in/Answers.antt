-- `report_differences::inner::first::first_in` meets its contract: a rising claim is told before a falling one.
use Rattle.report_differences.proofs.FirstClaimLaws.{found-rising, found-falling, found_none}
use Rattle.report_differences.proofs.inner.first.first_in.Goals as goal

pub returns-then-rising-gt0 : goal.returns-then-rising-gt0
returns-then-rising-gt0 c =
    found-rising c.args.report.now c.args.held.now _ _ c.rising_runs.ensures c.rising_runs-2.ensures c.args.paths _
    c.first_claim-rising.ensures c.if-rising-gt0.true

pub returns-then-falling-gt0 : goal.returns-then-falling-gt0
returns-then-falling-gt0 c =
    found-falling c.args.report.now c.args.held.now _ _ c.rising_runs.ensures c.rising_runs-2.ensures c.args.paths _
    c.first_claim-rising.ensures c.if-rising-gt0.false _ _ c.falling_runs.ensures c.falling_runs-2.ensures _
    c.first_claim-falling.ensures c.if-falling-gt0.true

pub returns : goal.returns
returns c =
    found_none c.args.report.now c.args.held.now _ _ c.rising_runs.ensures c.rising_runs-2.ensures c.args.paths _
    c.first_claim-rising.ensures c.if-rising-gt0.false _ _ c.falling_runs.ensures c.falling_runs-2.ensures _
    c.first_claim-falling.ensures c.if-falling-gt0.false
