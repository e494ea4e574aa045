-- `length_ranks::inner::ranks::add_partials` meets its contract: what is added so far, with what the net at hand still gives, is the whole.
use Rattle.length_ranks.proofs.DescentSums.{Descending}
use Rattle.length_ranks.proofs.inner.ranks.add_partials.Given as goal

abbrev pub invariant-loop-at : goal.invariant-loop-at
invariant-loop-at l = Descending l.netlist l.positions l.counts l.rows l.net l.number l.initial.sums l.inputs l.sums l.at l.rest l.gates

abbrev pub decreases-loop-at : goal.decreases-loop-at
decreases-loop-at l = l.at
