-- `single_intervals::nets::open_runs` meets its contract: the sum counts the runs of the nets of the open pins so far.
use Rattle.single_intervals.proofs.OpenRunLaws.{open-cases}
use Rattle.single_intervals.proofs.nets.open_runs.Goals as goal

pub bounds-part-3 : goal.bounds-part-3
bounds-part-3 c = search open-cases

pub wide-pins-requires : goal.wide-pins-requires
wide-pins-requires c = search open-cases

pub pin_runs-requires : goal.pin_runs-requires
pin_runs-requires c = search open-cases

pub pin_runs-requires-then-pins-eq2 : goal.pin_runs-requires-then-pins-eq2
pin_runs-requires-then-pins-eq2 c = search open-cases

pub overflow_add-result : goal.overflow_add-result
overflow_add-result c = search open-cases

pub returns-then-pins-eq2 : goal.returns-then-pins-eq2
returns-then-pins-eq2 c = search open-cases

pub loop-pin-init : goal.loop-pin-init
loop-pin-init c = search open-cases

pub pin_runs-sum-requires : goal.pin_runs-sum-requires
pin_runs-sum-requires c = search open-cases

pub overflow_add-sum : goal.overflow_add-sum
overflow_add-sum c = search open-cases

pub loop-pin-preserved : goal.loop-pin-preserved
loop-pin-preserved c = search open-cases

pub returns : goal.returns
returns c = search open-cases
