-- `gate_packed_pins::inner::all_pins` meets its contract: below 8 pins the shifted 1 does not leave the byte.
use Rattle.model.proofs.Prelude.{arith}
use lib.Pow.{pow_pos}
use Rattle.gate_packed_pins.proofs.KindCases.{eight-pins, shifted_one}
use Rattle.gate_packed_pins.proofs.inner.all_pins.Goals as goal

pub returns-then-pins-eq8 : goal.returns-then-pins-eq8
returns-then-pins-eq8 c = eight-pins c.args.pins c.if-pins-eq8.true

pub overflow_sub-result : goal.overflow_sub-result
overflow_sub-result c = rw (shifted_one c.args.pins (omega (arith, c.requires, c.if-pins-eq8.false))) (pow_pos c.args.pins)

pub returns : goal.returns
returns c = rw (shifted_one c.args.pins (omega (arith, c.requires, c.if-pins-eq8.false)))
