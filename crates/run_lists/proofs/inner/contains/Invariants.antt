-- `run_lists::inner::contains` meets its contract: the number lies in the whole list exactly where it lies in the part lo..hi that is left.
use Rattle.model.proofs.Prelude.{◌-◌}
use Rattle.run_lists.proofs.ContainsSteps.{Left}
use Rattle.run_lists.proofs.inner.contains.Given as goal

abbrev pub invariant-loop-lo : goal.invariant-loop-lo
invariant-loop-lo l = Left l.words l.from l.to l.x l.lo l.hi

abbrev pub decreases-loop-lo : goal.decreases-loop-lo
decreases-loop-lo l = l.hi - l.lo
