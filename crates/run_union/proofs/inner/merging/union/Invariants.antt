-- `run_union::inner::merging::union` meets its contract: the runs added so far and those left of both lists, by ascending low, make the runs of the union.
use Rattle.model.proofs.Prelude.{◌+◌, ◌-◌}
use Rattle.run_union.proofs.UnionSteps.{Merging}
use Rattle.run_union.proofs.inner.merging.union.Given as goal

abbrev pub invariant-loop-i : goal.invariant-loop-i
invariant-loop-i l = Merging l.a l.a_from l.a_to l.initial.words l.b_from l.b_to l.start l.capacity l.words l.i l.j l.k

abbrev pub decreases-loop-i : goal.decreases-loop-i
decreases-loop-i l = l.a_to + l.b_to - (l.i + l.j)
