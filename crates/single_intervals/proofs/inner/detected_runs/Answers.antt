-- `single_intervals::inner::detected_runs` meets its contract: the runs of the inputs, of the gates' nets, then of the detected numbers, and none without an edge.
use Rattle.model.proofs.Prelude.{refl, arith}
use Rattle.netlist.proofs.TableLaws.{few-inputs}
use Rattle.single_intervals.proofs.EdgeLaws.{edge-cases, edge-full}
use Rattle.single_intervals.proofs.inner.detected_runs.Goals as goal

pub returns-then-edges-eq0 : goal.returns-then-edges-eq0
returns-then-edges-eq0 c = search edge-cases

pub input_runs-first-requires : goal.input_runs-first-requires
input_runs-first-requires c =
    let known = c.requires.at_edge in
    (few-inputs known.tables, refl, omega (arith, known.room))

pub net_runs-requires : goal.net_runs-requires
net_runs-requires c = search edge-cases

pub outputs_part-part-requires : goal.outputs_part-part-requires
outputs_part-part-requires c = search (c.in_ok-net_runs.was, edge-cases)

pub out_runs-requires : goal.out_runs-requires
out_runs-requires c = search (c.in_ok-net_runs.was, edge-cases)

pub returns : goal.returns
returns c = search (c.in_ok-net_runs.was, edge-cases)

pub returns-in_err-net_runs : goal.returns-in_err-net_runs
returns-in_err-net_runs c =
    rw c.from_residual.ensures (λ K a. edge-full c.input_runs-first.ensures.0 c.input_runs-first.ensures.1 c.net_runs.ensures K a c.in_err-net_runs.was)
