-- `block_activity::inner::offsets::pin_offsets` meets its contract. The invariant, `PinsDone`: the first p pins have their offsets, and `offset` is their paths together.
use Rattle.block_activity.proofs.OffsetCases.{pin-cases}
use Rattle.block_activity.proofs.inner.offsets.pin_offsets.Goals as goal

pub bounds-counts-wide_word : goal.bounds-counts-wide_word
bounds-counts-wide_word c = search pin-cases

pub overflow_add-offset : goal.overflow_add-offset
overflow_add-offset c = search pin-cases

pub loop-p-preserved : goal.loop-p-preserved
loop-p-preserved c = search pin-cases

pub returns : goal.returns
returns c = search pin-cases
