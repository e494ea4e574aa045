-- `length_rows::inner::row_sum` meets its contract: the sum so far is that of the numbers before the place at hand.
use Rattle.length_rows.proofs.RowCases.{row-cases}
use Rattle.length_rows.proofs.inner.row_sum.Goals as goal

pub loop-number-init : goal.loop-number-init
loop-number-init c = search row-cases

pub overflow_add-sum : goal.overflow_add-sum
overflow_add-sum c = search row-cases

pub loop-number-preserved : goal.loop-number-preserved
loop-number-preserved c = search row-cases

pub returns : goal.returns
returns c = search row-cases
