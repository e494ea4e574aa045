-- `block_intervals::nets::over_working` meets its contract: the sum is `total` and the runs of the inputs so far.
use Rattle.block_intervals.proofs.WorkingSteps.{working-cases}
use Rattle.block_intervals.proofs.nets.over_working.Goals as goal

pub returns-then-total : goal.returns-then-total
returns-then-total c = search working-cases

pub returns-then-total-gt-MAX_RUNS : goal.returns-then-total-gt-MAX_RUNS
returns-then-total-gt-MAX_RUNS c = search working-cases

pub loop-input-init : goal.loop-input-init
loop-input-init c = search working-cases

pub overflow_shr-sum : goal.overflow_shr-sum
overflow_shr-sum c = search working-cases

pub overflow_add-sum : goal.overflow_add-sum
overflow_add-sum c = search working-cases

pub loop-input-preserved : goal.loop-input-preserved
loop-input-preserved c = search working-cases

pub returns : goal.returns
returns c = search working-cases
