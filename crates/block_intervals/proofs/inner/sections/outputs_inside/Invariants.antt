-- `block_intervals::inner::sections::outputs_inside` meets its contract. The invariant, `HeldSoFar`: the runs of the outputs that are not left lie in held runs.
use Rattle.block_intervals.proofs.SectionCases.{HeldSoFar}
use Rattle.block_intervals.proofs.inner.sections.outputs_inside.Given as goal

abbrev pub invariant-loop-left : goal.invariant-loop-left
invariant-loop-left l = HeldSoFar l.offsets l.outs l.spans l.base l.words l.held l.left

abbrev pub decreases-loop-left : goal.decreases-loop-left
decreases-loop-left l = l.left
