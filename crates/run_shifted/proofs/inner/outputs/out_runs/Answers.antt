-- `run_shifted::inner::outputs::out_runs` meets its contract: the list holds the runs of the outputs so far.
use Rattle.model.proofs.Prelude.{◌-◌, rules}
use Rattle.netlist.proofs.OutputLaws.{output-here}
use Rattle.run_shifted.proofs.PlaceRunSteps.{output-cases, places-room, places-small, place-net}
use Rattle.run_shifted.proofs.inner.outputs.out_runs.Goals as goal

pub loop-place-init : goal.loop-place-init
loop-place-init c = (search output-cases, search rules)

pub overflow_mul-place : goal.overflow_mul-place
overflow_mul-place c = search output-cases

pub slice_bounds-output_net-count : goal.slice_bounds-output_net-count
slice_bounds-output_net-count c = search output-cases

pub slice_bounds-output_net-start : goal.slice_bounds-output_net-start
slice_bounds-output_net-start c = search output-cases

pub slice_bounds-output_net-end : goal.slice_bounds-output_net-end
slice_bounds-output_net-end c = search output-cases

pub output_net-net-requires : goal.output_net-net-requires
output_net-net-requires c = search output-cases

pub at_gate-requires : goal.at_gate-requires
at_gate-requires c = search output-cases

pub returns-in_err-count : goal.returns-in_err-count
returns-in_err-count c = rw c.from_residual.ensures (search (c.in_err-count.was, output-cases))

pub output_paths-offset-requires : goal.output_paths-offset-requires
output_paths-offset-requires c = search output-cases

pub overflow_add-offset : goal.overflow_add-offset
overflow_add-offset c = search output-cases

pub loop-place-preserved : goal.loop-place-preserved
loop-place-preserved c = (search (c.in_ok-count.was, output-cases), search rules)

pub shape_of-words : goal.shape_of-words
shape_of-words c = search output-cases

pub returns : goal.returns
returns c = search output-cases

pub add_net-requires-clause-net_ready : goal.add_net-requires-clause-net_ready
add_net-requires-clause-net_ready c = search (output-here, output-cases, places-room, places-small, place-net, rules)
