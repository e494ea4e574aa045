-- `gate_packed_pins::inner::open_set` meets its contract, case by case of its definition.
use Rattle.model.proofs.Prelude.{rules}
use Rattle.gate_packed_pins.proofs.KindCases.{none-controls, one-controls, more-control}
use Rattle.gate_packed_pins.proofs.inner.open_set.Goals as goal

pub returns-then-controlling-lower-ne0 : goal.returns-then-controlling-lower-ne0
returns-then-controlling-lower-ne0 c = more-control c.args.all c.args.controlling (search rules) c.if-controlling-lower-ne0.true

pub returns-then-controlling-eq0 : goal.returns-then-controlling-eq0
returns-then-controlling-eq0 c = none-controls c.args.all c.args.controlling c.if-controlling-eq0.true

pub returns-else-controlling-eq0 : goal.returns-else-controlling-eq0
returns-else-controlling-eq0 c = one-controls c.args.all c.args.controlling (search rules) c.if-controlling-eq0.false c.if-controlling-lower-ne0.false
