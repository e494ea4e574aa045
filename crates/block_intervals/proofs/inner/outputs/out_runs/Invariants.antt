-- `block_intervals::inner::outputs::out_runs` meets its contract. The loop's invariant: the runs so far, with those of the outputs left, make the whole.
use Rattle.block_intervals.proofs.LiveOutputCases.{OutputsDone}
use Rattle.block_intervals.proofs.inner.outputs.out_runs.Given as goal

abbrev pub invariant-loop-left : goal.invariant-loop-left
invariant-loop-left l = OutputsDone l.offsets l.outs l.spans l.initial.words l.words l.left l.count

abbrev pub decreases-loop-left : goal.decreases-loop-left
decreases-loop-left l = l.left
