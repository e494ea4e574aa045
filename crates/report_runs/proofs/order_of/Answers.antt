-- `report_runs::order_of` meets its contract. The invariant: the runs before the place ascend, and the last of them ends with `last`.
use Rattle.model.proofs.Prelude.{◌-◌, arith, rules}
use Rattle.report_runs.proofs.OrderCases.{least_after, least-none, one_more, least_more, out_of_order, all-ascend}
use Rattle.report_runs.proofs.order_of.Goals as goal

pub loop-at-init : goal.loop-at-init
loop-at-init c = (omega arith, tt, least-none 0)

pub returns : goal.returns
returns c =
    let bytes = c.args.runs.now in
    let l = c.loop-at in
    all-ascend bytes l.at (omega arith) l.invariant.1

pub loop-at-preserved : goal.loop-at-preserved
loop-at-preserved c = search (least_after, least-none, one_more, least_more, out_of_order, all-ascend, rules)

pub returns-then-not-ascends_at : goal.returns-then-not-ascends_at
returns-then-not-ascends_at c = search (least_after, least-none, one_more, least_more, out_of_order, all-ascend, rules)
