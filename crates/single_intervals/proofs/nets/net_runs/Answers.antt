-- `single_intervals::nets::net_runs` meets its contract: the runs of the nets so far stand in the words.
use Rattle.model.proofs.Prelude.{rules}
use Rattle.single_intervals.proofs.NetSteps.{gate-cases, nets-more}
use Rattle.single_intervals.proofs.nets.net_runs.Goals as goal

pub loop-net-init : goal.loop-net-init
loop-net-init c = (search gate-cases, search rules)

pub gate_part-part-requires : goal.gate_part-part-requires
gate_part-part-requires c = search gate-cases

pub add_gate-requires : goal.add_gate-requires
add_gate-requires c = search gate-cases

pub overflow_add-start : goal.overflow_add-start
overflow_add-start c = search gate-cases

pub returns-in_err-start : goal.returns-in_err-start
returns-in_err-start c = rw c.from_residual.ensures (search (c.in_err-start.was, gate-cases))

pub overflow_cast-starts : goal.overflow_cast-starts
overflow_cast-starts c = search gate-cases

pub returns : goal.returns
returns c = search gate-cases

pub loop-net-preserved : goal.loop-net-preserved
loop-net-preserved c =
    (nets-more c.loop-net.invariant.0 c.loop-net-test.true c.gate_part-part.ensures c.add_gate.ensures c.in_ok-start.was, search gate-cases)

pub bounds-masks-net : goal.bounds-masks-net
bounds-masks-net c = search gate-cases

pub offset_bounds-starts-net : goal.offset_bounds-starts-net
offset_bounds-starts-net c = search gate-cases

pub bounds-starts-net : goal.bounds-starts-net
bounds-starts-net c = search gate-cases
