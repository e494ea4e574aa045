-- `detection_fault::walking::open_from` meets its contract: what is open from the net at hand on is what is open from the first net on.
use Rattle.detection_fault.proofs.WalkCases.{Walking}
use Rattle.detection_fault.proofs.walking.open_from.Given as goal

abbrev pub invariant-loop-at : goal.invariant-loop-at
invariant-loop-at l = Walking l.netlist l.positions l.counts l.masks l.moved l.net l.number l.inputs l.at l.rest

abbrev pub decreases-loop-at : goal.decreases-loop-at
decreases-loop-at l = l.at
