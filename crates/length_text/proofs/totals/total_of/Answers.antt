-- `length_text::totals::total_of` meets its contract. The invariant: the sum is that of the numbers before the one at hand.
use Rattle.model.proofs.Prelude.{arith}
use Rattle.length_text.proofs.TotalLaws.{total-next, total-is}
use Rattle.length_text.proofs.totals.total_of.Goals as goal

pub loop-number-init : goal.loop-number-init
loop-number-init c = (omega arith, omega arith)

pub loop-number-preserved : goal.loop-number-preserved
loop-number-preserved c =
    (omega arith, total-next c.args.row.now c.loop-number.number-index c.loop-number.sum c.capped_sum-sum.result c.loop-number.invariant.1 c.capped_sum-sum.ensures)

pub returns : goal.returns
returns c =
    total-is c.args.row.now c.loop-number.number-index c.loop-number.sum c.loop-number.invariant.0 (omega arith) c.loop-number.invariant.1
