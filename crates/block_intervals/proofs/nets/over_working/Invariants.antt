-- `block_intervals::nets::over_working` meets its contract: the sum is `total` and the runs of the inputs so far.
use Rattle.model.proofs.Prelude.{◌-◌}
use Rattle.block_intervals.proofs.WorkingSteps.{InputsSummed}
use Rattle.block_intervals.proofs.nets.over_working.Given as goal

abbrev pub invariant-loop-input : goal.invariant-loop-input
invariant-loop-input l = InputsSummed l.total l.edges l.inputs l.input l.sum
