-- `run_lists::inner::inside` meets its contract: the runs that the walk has passed lie inside.
use Rattle.run_lists.proofs.InsideSteps.{Walked}
use Rattle.run_lists.proofs.inner.inside.Given as goal

abbrev pub invariant-loop-j : goal.invariant-loop-j
invariant-loop-j l = Walked l.a l.a_from l.a_to l.b l.b_from l.b_to l.i l.j
