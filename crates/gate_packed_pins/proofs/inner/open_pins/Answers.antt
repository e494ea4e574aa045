-- `gate_packed_pins::inner::open_pins` meets its contract, kind by kind.
use Rattle.model.proofs.Prelude.{rules}
use Rattle.gate_packed_pins.proofs.KindCases.{open_and, open_nand, open_or, open_nor, open_rest}
use Rattle.gate_packed_pins.proofs.inner.open_pins.Goals as goal

pub returns-in-3 : goal.returns-in-3
returns-in-3 c = search (open_and, rules)

pub returns-in-4 : goal.returns-in-4
returns-in-4 c = search (open_nand, rules)

pub returns-in-5 : goal.returns-in-5
returns-in-5 c = search (open_or, rules)

pub returns-in-6 : goal.returns-in-6
returns-in-6 c = search (open_nor, rules)

pub returns-in_default : goal.returns-in_default
returns-in_default c = search (open_rest, rules)
