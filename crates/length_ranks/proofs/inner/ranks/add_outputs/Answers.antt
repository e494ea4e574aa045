-- `length_ranks::inner::ranks::add_outputs` meets its contract: the rows of the outputs before the one at hand are added.
use Rattle.model.proofs.Prelude.{◌-◌}
use Rattle.length_ranks.proofs.OutputSumCases.{outputs-cases}
use Rattle.length_ranks.proofs.inner.ranks.add_outputs.Goals as goal

pub loop-before-init : goal.loop-before-init
loop-before-init c = search outputs-cases

pub overflow_mul-before : goal.overflow_mul-before
overflow_mul-before c = search outputs-cases

pub slice_bounds-output_net-count : goal.slice_bounds-output_net-count
slice_bounds-output_net-count c = search outputs-cases

pub slice_bounds-output_net-start : goal.slice_bounds-output_net-start
slice_bounds-output_net-start c = search outputs-cases

pub slice_bounds-output_net-end : goal.slice_bounds-output_net-end
slice_bounds-output_net-end c = search outputs-cases

pub output_net-net-requires : goal.output_net-net-requires
output_net-net-requires c = search outputs-cases

pub add_output-requires : goal.add_output-requires
add_output-requires c = search outputs-cases

pub loop-before-preserved : goal.loop-before-preserved
loop-before-preserved c = search outputs-cases

pub returns : goal.returns
returns c = search outputs-cases
