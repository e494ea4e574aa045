-- `report_bytes::inner::writing::put_head` meets its contract, field by field.
use Rattle.model.proofs.Prelude.{rules}
use Rattle.report_bytes.proofs.HeadLaws.{head-put}
use Rattle.report_bytes.proofs.inner.writing.put_head.Goals as goal

pub returns : goal.returns
returns c = search (head-put, rules)
