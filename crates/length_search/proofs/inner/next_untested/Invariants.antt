-- `length_search::inner::next_untested` meets its contract: what is first from the number at hand on, with the runs that are left, is first of all.
use Rattle.length_search.proofs.RunCases.{Going}
use Rattle.length_search.proofs.inner.next_untested.Given as goal

abbrev pub invariant-loop-i : goal.invariant-loop-i
invariant-loop-i l = Going l.netlist l.positions l.counts l.shape l.rows l.words l.wanted l.runs l.at l.i
