-- `netlist_outputs::inner::read_outputs` meets its contract: the readings that are left, from the state so far, give the whole.
use Rattle.model.proofs.Prelude.{◌≤◌, ◌<◌, ◌+◌, ◌-◌, ◌*◌, ◌≡◌, arith, rules}
use Rattle.model.proofs.AnswerLaws.{exit}
use Rattle.std.proofs.Math.Nat.{sub-add-eq}
use Rattle.netlist_outputs.proofs.OutputCases.{outputs-start, outputs-stop, outputs-fit, outputs-small, outputs-within, outputs-again, outputs-end}
use Rattle.netlist_outputs.proofs.inner.read_outputs.Goals as goal

pub loop-k-init : goal.loop-k-init
loop-k-init c = search (outputs-start, rules)

pub overflow_add-low : goal.overflow_add-low
overflow_add-low c =
    let more : 0 < c.args.outputs - c.loop-k.k = omega arith in
    search (c.in_ok-output.was, outputs-fit, rules)

pub returns-in_err-output : goal.returns-in_err-output
returns-in_err-output c =
    let more : 0 < c.args.outputs - c.loop-k.k = omega arith in
    rw (exit _ _ c.from_residual.ensures.1) (search (c.in_err-output.was, outputs-stop, rules))

pub loop-k-preserved : goal.loop-k-preserved
loop-k-preserved c =
    let k = c.loop-k.k in
    let more : 0 < c.args.outputs - k = omega arith in
    let at : c.args.from + 4 * (k + 1) ≡ c.args.from + 4 * k + 4 = omega arith in
    rw (sub-add-eq c.args.outputs k 1, at) (search (c.in_ok-output.was, outputs-small, outputs-within, outputs-again, rules))

pub returns : goal.returns
returns c =
    let none : c.args.outputs - c.loop-k.k ≤ 0 = omega arith in
    let at : c.args.from + 4 * c.args.outputs ≡ c.args.from + 4 * c.loop-k.k = omega arith in
    rw at (search (outputs-end, rules))
