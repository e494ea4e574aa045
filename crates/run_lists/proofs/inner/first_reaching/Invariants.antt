-- `run_lists::inner::first_reaching` meets its contract. The loop's invariant: what is left of the runs from..to begins at `at`.
use Rattle.model.proofs.Prelude.{◌≤◌, ◌+◌}
use Rattle.run_lists.proofs.inner.first_reaching.Given as goal

abbrev pub invariant-loop-left : goal.invariant-loop-left
invariant-loop-left l = (l.from ≤ l.at) × (l.at + l.left ≤ l.to)

abbrev pub decreases-loop-left : goal.decreases-loop-left
decreases-loop-left l = l.left
