-- `record_bytes::inner::u16_at` meets its contract: low byte and 256 times the high one are the field.
use Rattle.model.proofs.Prelude.{rules}
use Rattle.record_bytes.proofs.ByteLaws.{field_is}
use Rattle.record_bytes.proofs.inner.u16_at.Goals as goal

pub returns : goal.returns
returns c = search (field_is, rules)
