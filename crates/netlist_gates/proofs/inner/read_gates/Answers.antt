-- `netlist_gates::inner::read_gates` meets its contract: the readings and the positions that are left, from the state so far, give the whole.
use Rattle.model.proofs.Prelude.{◌≤◌, ◌<◌, ◌+◌, ◌-◌, arith}
use Rattle.model.proofs.AnswerLaws.{exit}
use Rattle.std.proofs.Math.Nat.{sub-add-eq, add-sub_cancel_left}
use Rattle.netlist_gates.proofs.GateSteps.{read-gates-cases}
use Rattle.netlist_gates.proofs.inner.read_gates.Goals as goal

pub loop-net-init : goal.loop-net-init
loop-net-init c = rw (add-sub_cancel_left c.args.inputs c.args.gates) (search read-gates-cases)

pub overflow_add-at : goal.overflow_add-at
overflow_add-at c =
    let more : 0 < c.args.inputs + c.args.gates - c.loop-net.net = omega arith in
    search (c.in_ok-gate.was, read-gates-cases)

pub returns-in_err-gate : goal.returns-in_err-gate
returns-in_err-gate c =
    let more : 0 < c.args.inputs + c.args.gates - c.loop-net.net = omega arith in
    rw (exit _ _ c.from_residual.ensures.1) (search (c.in_err-gate.was, read-gates-cases))

pub loop-net-preserved : goal.loop-net-preserved
loop-net-preserved c =
    let left = c.args.inputs + c.args.gates - c.loop-net.net in
    let more : 0 < left = omega arith in
    let few : c.loop-net.net + left ≤ 512 = omega arith in
    rw (sub-add-eq (c.args.inputs + c.args.gates) c.loop-net.net 1) (search (c.in_ok-gate.was, read-gates-cases))

pub returns : goal.returns
returns c =
    let none : c.args.inputs + c.args.gates - c.loop-net.net ≤ 0 = omega arith in
    search read-gates-cases
