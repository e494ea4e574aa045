-- `path_step::inner::outputs::pick_output` meets its contract: of the number, the rest is left after the outputs that were passed.
use Rattle.path_step.proofs.OutputPicks.{output-cases}
use Rattle.path_step.proofs.inner.outputs.pick_output.Goals as goal

pub loop-place-init : goal.loop-place-init
loop-place-init c = search output-cases

pub overflow_add-place : goal.overflow_add-place
overflow_add-place c = search output-cases

pub overflow_mul-place : goal.overflow_mul-place
overflow_mul-place c = search output-cases

pub slice_bounds-output_net-count : goal.slice_bounds-output_net-count
slice_bounds-output_net-count c = search output-cases

pub slice_bounds-output_net-start : goal.slice_bounds-output_net-start
slice_bounds-output_net-start c = search output-cases

pub slice_bounds-output_net-end : goal.slice_bounds-output_net-end
slice_bounds-output_net-end c = search output-cases

pub output_net-net-requires : goal.output_net-net-requires
output_net-net-requires c = search output-cases

pub output_paths-count-requires : goal.output_paths-count-requires
output_paths-count-requires c = search output-cases

pub returns-then-rest-count : goal.returns-then-rest-count
returns-then-rest-count c = search output-cases

pub overflow_sub-rest : goal.overflow_sub-rest
overflow_sub-rest c = search output-cases

pub overflow_add-place-in-loop-place : goal.overflow_add-place-in-loop-place
overflow_add-place-in-loop-place c = search output-cases

pub loop-place-smaller : goal.loop-place-smaller
loop-place-smaller c = search output-cases

pub loop-place-preserved : goal.loop-place-preserved
loop-place-preserved c = search output-cases

pub overflow_mul-place-2 : goal.overflow_mul-place-2
overflow_mul-place-2 c = search output-cases

pub slice_bounds-output_net-count-2 : goal.slice_bounds-output_net-count-2
slice_bounds-output_net-count-2 c = search output-cases

pub slice_bounds-output_net-start-2 : goal.slice_bounds-output_net-start-2
slice_bounds-output_net-start-2 c = search output-cases

pub slice_bounds-output_net-end-2 : goal.slice_bounds-output_net-end-2
slice_bounds-output_net-end-2 c = search output-cases

pub output_net-net-requires-2 : goal.output_net-net-requires-2
output_net-net-requires-2 c = search output-cases

pub returns : goal.returns
returns c = search output-cases
