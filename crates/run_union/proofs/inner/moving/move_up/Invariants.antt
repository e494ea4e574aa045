-- `run_union::inner::moving::move_up` meets its contract: the words are those with the runs from the last down to this one written.
use Rattle.run_union.proofs.MoveSteps.{MovedFrom}
use Rattle.run_union.proofs.inner.moving.move_up.Given as goal

abbrev pub invariant-loop-k : goal.invariant-loop-k
invariant-loop-k l = MovedFrom l.initial.words l.from l.count l.to l.words l.k
