-- `block_activity::inner::offsets::output_offsets` meets its contract. The invariant, `OutputsDone`: the first o outputs have their offsets, and `offset` is their paths
-- together.
use Rattle.block_activity.proofs.OffsetCases.{output-offsets-cases}
use Rattle.block_activity.proofs.inner.offsets.output_offsets.Goals as goal

pub output_paths-offset-requires : goal.output_paths-offset-requires
output_paths-offset-requires c = search output-offsets-cases

pub overflow_add-offset : goal.overflow_add-offset
overflow_add-offset c = search output-offsets-cases

pub loop-o-preserved : goal.loop-o-preserved
loop-o-preserved c = search output-offsets-cases

pub returns : goal.returns
returns c = search output-offsets-cases
