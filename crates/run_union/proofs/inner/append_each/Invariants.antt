-- `run_union::inner::append_each` meets its contract: what is added so far and the runs that are left, shifted, make the total.
use Rattle.run_union.proofs.EachSteps.{Shifting}
use Rattle.run_union.proofs.inner.append_each.Given as goal

abbrev pub invariant-loop-i : goal.invariant-loop-i
invariant-loop-i l = Shifting l.initial.words l.from l.to l.start l.count l.capacity l.offset l.words l.i l.n
