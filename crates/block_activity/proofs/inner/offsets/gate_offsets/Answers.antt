-- `block_activity::inner::offsets::gate_offsets` meets its contract. The invariant, `GatesDone`: the gates that drive the nets before `net` have their offsets.
use Rattle.block_activity.proofs.OffsetCases.{gate-offsets-cases}
use Rattle.block_activity.proofs.inner.offsets.gate_offsets.Goals as goal

pub pin_offsets-requires : goal.pin_offsets-requires
pin_offsets-requires c = search gate-offsets-cases

pub loop-net-preserved : goal.loop-net-preserved
loop-net-preserved c = search gate-offsets-cases

pub returns : goal.returns
returns c = search gate-offsets-cases
