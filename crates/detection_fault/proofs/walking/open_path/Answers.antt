-- `detection_fault::walking::open_path` meets its contract: the output that the number ends at, then the walk from its net.
use Rattle.detection_fault.proofs.OpenPathLaws.{path-cases}
use Rattle.detection_fault.proofs.walking.open_path.Goals as goal

pub outputs_part-outputs-requires : goal.outputs_part-outputs-requires
outputs_part-outputs-requires c = search path-cases

pub pick_output-out-requires : goal.pick_output-out-requires
pick_output-out-requires c = search path-cases

pub open_from-requires : goal.open_from-requires
open_from-requires c = search path-cases

pub returns : goal.returns
returns c = search path-cases
