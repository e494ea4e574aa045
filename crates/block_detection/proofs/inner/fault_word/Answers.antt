-- `block_detection::inner::fault_word` meets its contract: the output that the number ends at, then the walk from its net.
use Rattle.block_detection.proofs.FaultWordCases.{fault-cases}
use Rattle.block_detection.proofs.inner.fault_word.Goals as goal

pub outputs_part-outputs-requires : goal.outputs_part-outputs-requires
outputs_part-outputs-requires c = search fault-cases

pub pick_output-out-requires : goal.pick_output-out-requires
pick_output-out-requires c = search fault-cases

pub path_word-requires : goal.path_word-requires
path_word-requires c = search fault-cases

pub returns : goal.returns
returns c = search fault-cases
