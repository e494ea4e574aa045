-- `single_intervals::nets::input_runs` meets its contract: the runs of the inputs so far stand in the words.
use Rattle.single_intervals.proofs.StandLaws.{InputsDone}
use Rattle.single_intervals.proofs.nets.input_runs.Given as goal

abbrev pub invariant-loop-input : goal.invariant-loop-input
invariant-loop-input l =
    InputsDone l.edges l.inputs l.initial.words l.words l.starts l.input l.start
