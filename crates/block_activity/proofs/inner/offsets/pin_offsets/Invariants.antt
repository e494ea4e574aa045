-- `block_activity::inner::offsets::pin_offsets` meets its contract. The invariant, `PinsDone`: the first p pins have their offsets, and `offset` is their paths together.
use Rattle.block_activity.proofs.OffsetCases.{PinsDone}
use Rattle.block_activity.proofs.inner.offsets.pin_offsets.Given as goal

abbrev pub invariant-loop-p : goal.invariant-loop-p
invariant-loop-p l = PinsDone l.counts l.table l.net l.pins l.initial.offsets l.offsets l.offset l.p
