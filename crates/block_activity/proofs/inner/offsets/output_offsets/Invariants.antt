-- `block_activity::inner::offsets::output_offsets` meets its contract. The invariant, `OutputsDone`: the first o outputs have their offsets, and `offset` is their paths
-- together.
use Rattle.block_activity.proofs.OffsetCases.{OutputsDone}
use Rattle.block_activity.proofs.inner.offsets.output_offsets.Given as goal

abbrev pub invariant-loop-o : goal.invariant-loop-o
invariant-loop-o l = OutputsDone l.part l.inputs l.outputs l.counts l.initial.offsets l.offsets l.offset l.o
