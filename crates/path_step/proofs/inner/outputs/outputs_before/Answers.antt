-- `path_step::inner::outputs::outputs_before` meets its contract: the sum so far is that of the counts of the outputs before the one at hand.
use Rattle.path_step.proofs.OutputPicks.{outputs-before-cases}
use Rattle.path_step.proofs.inner.outputs.outputs_before.Goals as goal

pub loop-before-init : goal.loop-before-init
loop-before-init c = search outputs-before-cases

pub overflow_mul-before : goal.overflow_mul-before
overflow_mul-before c = search outputs-before-cases

pub slice_bounds-output_net-count : goal.slice_bounds-output_net-count
slice_bounds-output_net-count c = search outputs-before-cases

pub slice_bounds-output_net-start : goal.slice_bounds-output_net-start
slice_bounds-output_net-start c = search outputs-before-cases

pub slice_bounds-output_net-end : goal.slice_bounds-output_net-end
slice_bounds-output_net-end c = search outputs-before-cases

pub output_net-net-requires : goal.output_net-net-requires
output_net-net-requires c = search outputs-before-cases

pub output_paths-total-requires : goal.output_paths-total-requires
output_paths-total-requires c = search outputs-before-cases

pub overflow_add-total : goal.overflow_add-total
overflow_add-total c = search outputs-before-cases

pub loop-before-preserved : goal.loop-before-preserved
loop-before-preserved c = search outputs-before-cases

pub returns : goal.returns
returns c = search outputs-before-cases
