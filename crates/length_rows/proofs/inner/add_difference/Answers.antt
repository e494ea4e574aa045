-- `length_rows::inner::add_difference` meets its contract: the numbers before the place at hand are added to, the others are as found.
use Rattle.length_rows.proofs.RowCases.{over-cases, summed-end}
use Rattle.length_rows.proofs.inner.add_difference.Goals as goal

pub loop-at-init : goal.loop-at-init
loop-at-init c = search over-cases

pub offset_bounds-sums-at : goal.offset_bounds-sums-at
offset_bounds-sums-at c = search over-cases

pub bounds-sums-at : goal.bounds-sums-at
bounds-sums-at c = search over-cases

pub offset_bounds-high-at : goal.offset_bounds-high-at
offset_bounds-high-at c = search over-cases

pub bounds-high-at : goal.bounds-high-at
bounds-high-at c = search over-cases

pub offset_bounds-low-at : goal.offset_bounds-low-at
offset_bounds-low-at c = search over-cases

pub bounds-low-at : goal.bounds-low-at
bounds-low-at c = search over-cases

pub overflow_sub-sums : goal.overflow_sub-sums
overflow_sub-sums c = search over-cases

pub overflow_add-sums : goal.overflow_add-sums
overflow_add-sums c = search over-cases

pub offset_bounds-sums-at-in-loop-at : goal.offset_bounds-sums-at-in-loop-at
offset_bounds-sums-at-in-loop-at c = search over-cases

pub bounds-sums-at-in-loop-at : goal.bounds-sums-at-in-loop-at
bounds-sums-at-in-loop-at c = search over-cases

pub loop-at-preserved : goal.loop-at-preserved
loop-at-preserved c = search over-cases

pub returns : goal.returns
returns c = summed-end c.loop-at.invariant c.loop-at-test.false
