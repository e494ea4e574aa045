-- `path_lines::walk::put_walk` meets its contract: the output's line, then those of the gates.
use Rattle.path_lines.proofs.WalkCases.{output-cases}
use Rattle.path_lines.proofs.walk.put_walk.Goals as goal

pub returns-then-shape-place : goal.returns-then-shape-place
returns-then-shape-place c = search output-cases

pub outputs_part-outputs-requires : goal.outputs_part-outputs-requires
outputs_part-outputs-requires c = search output-cases

pub slice_bounds-output_net-count : goal.slice_bounds-output_net-count
slice_bounds-output_net-count c = search output-cases

pub slice_bounds-output_net-start : goal.slice_bounds-output_net-start
slice_bounds-output_net-start c = search output-cases

pub output_net-net-requires : goal.output_net-net-requires
output_net-net-requires c = search output-cases

pub put_gates-requires : goal.put_gates-requires
put_gates-requires c = search output-cases

pub returns : goal.returns
returns c = search output-cases
