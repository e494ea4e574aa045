-- `block_activity::inner::offsets::fill_path_offsets` meets its contract: the offsets of a legal netlist's gates are filled in, then those of its outputs.
use Rattle.block_activity.proofs.OffsetTableLaws.{offsets-cases}
use Rattle.block_activity.proofs.inner.offsets.fill_path_offsets.Goals as goal

pub gate_offsets-requires : goal.gate_offsets-requires
gate_offsets-requires c = search offsets-cases

pub outputs_part-part-requires : goal.outputs_part-part-requires
outputs_part-part-requires c = search offsets-cases

pub output_offsets-requires : goal.output_offsets-requires
output_offsets-requires c = search offsets-cases

pub returns : goal.returns
returns c = search offsets-cases
