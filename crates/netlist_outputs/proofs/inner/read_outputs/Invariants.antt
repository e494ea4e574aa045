-- `netlist_outputs::inner::read_outputs` meets its contract: the readings that are left, from the state so far, give the whole.
use Rattle.model.proofs.Prelude.{◌≤◌, ◌+◌, ◌-◌, ◌*◌, ◌^◌, length, drop}
use Rattle.model.specs.Read.{read_outputs_of}
use Rattle.netlist_outputs.proofs.OutputCases.{OutputsLeft}
use Rattle.netlist_outputs.proofs.inner.read_outputs.Given as goal

abbrev pub invariant-loop-k : goal.invariant-loop-k
invariant-loop-k l =
    let at = l.from + 4 * l.k in
    (at ≤ length l.netlist)
    × (l.total ≤ 2 ^ 62)
    × OutputsLeft (l.outputs - l.k) l.inputs l.nets l.low l.total at l.counts l.netlist
    (read_outputs_of l.outputs l.inputs l.nets l.counts 0 0 (drop l.from l.netlist))
