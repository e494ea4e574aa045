-- `block_detection::inner::path_word` meets its contract: the word so far, with what is open from the net at hand on, is what is open from the first net on.
use Rattle.block_detection.proofs.WordWalkCases.{Walked}
use Rattle.block_detection.proofs.inner.path_word.Given as goal

abbrev pub invariant-loop-at : goal.invariant-loop-at
invariant-loop-at l = Walked l.netlist l.positions l.counts l.shape l.table l.words l.class l.edge l.initial.at l.initial.rest l.at l.rest l.word

abbrev pub decreases-loop-at : goal.decreases-loop-at
decreases-loop-at l = l.at
