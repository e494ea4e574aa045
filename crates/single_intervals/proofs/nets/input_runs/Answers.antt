-- `single_intervals::nets::input_runs` meets its contract: the runs of the inputs so far stand in the words.
use Rattle.single_intervals.proofs.StandLaws.{input-cases}
use Rattle.single_intervals.proofs.nets.input_runs.Goals as goal

pub loop-input-preserved : goal.loop-input-preserved
loop-input-preserved c = search input-cases
