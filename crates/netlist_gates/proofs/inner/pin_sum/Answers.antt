-- `netlist_gates::inner::pin_sum` meets its contract: what is left of 2^62 and the sum over the pins that are left say what the whole is, and the test
-- before each subtraction keeps what is left from going below 0.
use Rattle.model.proofs.Prelude.{◌≤◌, ◌<◌, ◌+◌, ◌-◌, ◌*◌, ◌≡◌, arith, rules}
use Rattle.std.proofs.Math.Nat.{sub-add-eq}
use Rattle.netlist_gates.proofs.PinSteps.{lower-first, lower-rest, room-again, room-stop, room-end, room-fits, two-lower-still, sum-as_two}
use Rattle.netlist_gates.specs.GateReading.{pin_sum_of}
use Rattle.netlist_gates.proofs.inner.pin_sum.Goals as goal

pub two_sum-requires : goal.two_sum-requires
two_sum-requires c = search (two-lower-still, rules)

pub returns-then-pins-eq2 : goal.returns-then-pins-eq2
returns-then-pins-eq2 c = search (sum-as_two, rules)

pub bounds-counts-pin : goal.bounds-counts-pin
bounds-counts-pin c = search (lower-first, rules)

pub returns-then-room-count : goal.returns-then-room-count
returns-then-room-count c =
    let l = c.loop-k in
    room-stop c.args.counts.now (c.args.pins - l.k) (4 + 2 * l.k) c.args.part.now l.room (pin_sum_of c.args.counts.now c.args.pins 4 c.args.part.now)
    c.u16_at-pin.result (omega (arith, c.loop-k-test.true)) c.u16_at-pin.ensures.0 l.invariant.2 c.if-room-count.true

pub loop-k-preserved : goal.loop-k-preserved
loop-k-preserved c =
    let k = c.loop-k.k in
    let more : 0 < c.args.pins - k = omega arith in
    let at : 4 + 2 * (k + 1) ≡ 4 + 2 * k + 2 = omega arith in
    rw (sub-add-eq c.args.pins k 1, at) (search (lower-rest, room-again, rules))

pub returns : goal.returns
returns c =
    let none : c.args.pins - c.loop-k.k ≤ 0 = omega arith in
    search (room-end, room-fits, rules)
