-- `netlist_gates::inner::pins_lower` meets its contract: whether the pins that are left are lower says it of all pins.
use Rattle.model.proofs.Prelude.{◌+◌, ◌*◌, ◌≡◌, arith, rules}
use Rattle.std.proofs.Math.Nat.{sub-add-eq}
use Rattle.netlist_gates.proofs.PinSteps.{lower-again, lower-stop, lower-end, lower-as_two}
use Rattle.netlist_gates.proofs.inner.pins_lower.Goals as goal

pub returns-then-pins-eq2 : goal.returns-then-pins-eq2
returns-then-pins-eq2 c = search (lower-as_two, rules)

pub returns-then-net-pin : goal.returns-then-net-pin
returns-then-net-pin c = search (lower-stop, rules)

pub loop-k-preserved : goal.loop-k-preserved
loop-k-preserved c =
    let k = c.loop-k.k in
    let at : 4 + 2 * (k + 1) ≡ 4 + 2 * k + 2 = omega arith in
    rw (sub-add-eq c.args.pins k 1, at) (search (lower-again, rules))

pub returns : goal.returns
returns c = search (lower-end, rules)
