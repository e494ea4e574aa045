-- `single_intervals::nets::open_runs` meets its contract: the sum counts the runs of the nets of the open pins so far.
use Rattle.single_intervals.proofs.OpenRunLaws.{OpenDone}
use Rattle.single_intervals.proofs.nets.open_runs.Given as goal

abbrev pub invariant-loop-pin : goal.invariant-loop-pin
invariant-loop-pin l = OpenDone l.part l.mask l.starts l.pins l.pin l.sum
