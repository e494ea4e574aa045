-- `length_rows::inner::add_longer` meets its contract: the numbers before the place at hand are added to, the others are as found.
use Rattle.length_rows.proofs.RowCases.{longer-cases, summed-end}
use Rattle.length_rows.proofs.inner.add_longer.Goals as goal

pub loop-at-init : goal.loop-at-init
loop-at-init c = search longer-cases

pub offset_bounds-sums-at : goal.offset_bounds-sums-at
offset_bounds-sums-at c = search longer-cases

pub bounds-sums-at : goal.bounds-sums-at
bounds-sums-at c = search longer-cases

pub overflow_sub-sums : goal.overflow_sub-sums
overflow_sub-sums c = search longer-cases

pub offset_bounds-row-at : goal.offset_bounds-row-at
offset_bounds-row-at c = search longer-cases

pub bounds-row-at : goal.bounds-row-at
bounds-row-at c = search longer-cases

pub overflow_add-sums : goal.overflow_add-sums
overflow_add-sums c = search longer-cases

pub offset_bounds-sums-at-in-loop-at : goal.offset_bounds-sums-at-in-loop-at
offset_bounds-sums-at-in-loop-at c = search longer-cases

pub bounds-sums-at-in-loop-at : goal.bounds-sums-at-in-loop-at
bounds-sums-at-in-loop-at c = search longer-cases

pub loop-at-preserved : goal.loop-at-preserved
loop-at-preserved c = search longer-cases

pub returns : goal.returns
returns c = summed-end c.loop-at.invariant.1 c.loop-at-test.false
