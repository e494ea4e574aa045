-- `single_intervals::nets::net_runs` meets its contract: the runs of the nets so far stand in the words.
use Rattle.model.proofs.Prelude.{◌≡◌, length}
use Rattle.single_intervals.proofs.NetSteps.{NetsDone}
use Rattle.single_intervals.proofs.nets.net_runs.Given as goal

abbrev pub invariant-loop-net : goal.invariant-loop-net
invariant-loop-net l =
    NetsDone l.netlist l.positions l.counts l.masks l.fn.shape l.initial.words l.initial.starts l.first l.words l.starts l.net l.start × (length l.words ≡ length l.initial.words)
