-- `run_intersection::inner::common` meets its contract: what is put so far, then what the runs that are left have in common, is what the lists have in common.
use Rattle.model.proofs.Prelude.{◌+◌, ◌-◌}
use Rattle.run_intersection.proofs.MeetCases.{Meeting}
use Rattle.run_intersection.proofs.inner.common.Given as goal

abbrev pub invariant-loop-i : goal.invariant-loop-i
invariant-loop-i l = Meeting l.a l.m l.b l.n l.initial.words l.words l.i l.j l.k

abbrev pub decreases-loop-i : goal.decreases-loop-i
decreases-loop-i l = l.m + l.n - (l.i + l.j)
