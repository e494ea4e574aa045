-- `report_differences::inner::walk::seek` meets its contract. The invariant: the runs before the place end before the number.
use Rattle.report_differences.specs.Differences.{Passed}
use Rattle.report_differences.proofs.inner.walk.seek.Given as goal

abbrev pub invariant-loop-at : goal.invariant-loop-at
invariant-loop-at l = Passed l.runs l.at l.number
