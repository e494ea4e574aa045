-- `exhaust_undetected::inner::next_free` meets its contract: what is first from the run at hand on is first of all runs.
use Rattle.exhaust_undetected.proofs.FreeLaws.{Walked}
use Rattle.exhaust_undetected.proofs.inner.next_free.Given as goal

abbrev pub invariant-loop-i : goal.invariant-loop-i
invariant-loop-i l = Walked l.words l.from l.to l.x l.i
