-- `netlist_gates::inner::read_gates` meets its contract: the readings and the positions that are left, from the state so far, give the whole.
use Rattle.model.proofs.Prelude.{◌≤◌, ◌+◌, ◌-◌, ◌*◌, ◌++◌, length, replicate}
use Rattle.netlist_gates.specs.GateReading.{starts}
use Rattle.netlist_gates.proofs.PositionSteps.{PositionsLeft}
use Rattle.netlist_gates.proofs.GateSteps.{GatesLeft}
use Rattle.netlist_gates.proofs.inner.read_gates.Given as goal

abbrev pub invariant-loop-net : goal.invariant-loop-net
invariant-loop-net l =
    let left = l.inputs + l.gates - l.net in
    (l.inputs + l.gates ≤ 512)
    × (l.at ≤ length l.netlist)
    × (l.at + 20 * left ≤ 8 + 20 * l.gates)
    × GatesLeft left l.net l.at l.counts l.netlist l.inputs l.gates
    × PositionsLeft left l.net l.at l.positions l.netlist (replicate l.inputs 0 ++ starts l.gates 8 l.netlist)
