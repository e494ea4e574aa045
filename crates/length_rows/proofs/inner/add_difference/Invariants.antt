-- `length_rows::inner::add_difference` meets its contract: the numbers before the place at hand are added to, the others are as found.
use Rattle.length_rows.proofs.RowCases.{Summed, over}
use Rattle.length_rows.proofs.inner.add_difference.Given as goal

abbrev pub invariant-loop-at : goal.invariant-loop-at
invariant-loop-at l = Summed l.initial.sums l.sums (over l.initial.sums l.high l.low) l.at
