-- `path_lines::walk::put_gates` meets its contract: what is put so far, with the lines of the gates that are left, is the whole.
use Rattle.bench_net_names.specs.Table.{name_in_of}
use Rattle.path_lines.proofs.WalkCases.{Walking}
use Rattle.path_lines.proofs.walk.put_gates.Given as goal

abbrev pub invariant-loop-net : goal.invariant-loop-net
invariant-loop-net l =
    Walking l.initial.out l.at (name_in_of l.names) l.netlist l.positions l.words l.output l.inputs l.out l.net l.place l.k

abbrev pub decreases-loop-net : goal.decreases-loop-net
decreases-loop-net l = l.net
