-- `gate_packed_pins::inner::is_odd` meets its contract: its rule is computed at all 256 bytes at once.
use Rattle.model.proofs.Prelude.{rules}
use Rattle.gate_packed_pins.proofs.PackedLaws.{folded_odd}
use Rattle.gate_packed_pins.proofs.inner.is_odd.Goals as goal

pub returns : goal.returns
returns c = folded_odd c.args.packed (search rules)
