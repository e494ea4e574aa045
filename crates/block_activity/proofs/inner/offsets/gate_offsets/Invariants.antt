-- `block_activity::inner::offsets::gate_offsets` meets its contract. The invariant, `GatesDone`: the gates that drive the nets before `net` have their offsets.
use Rattle.block_activity.proofs.OffsetCases.{GatesDone}
use Rattle.block_activity.proofs.inner.offsets.gate_offsets.Given as goal

abbrev pub invariant-loop-net : goal.invariant-loop-net
invariant-loop-net l = GatesDone l.counts l.table l.low l.offsets l.net
