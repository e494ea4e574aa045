-- `text_line::inner::put_number` meets its contract: the digits that are written are those of the number, and at most 20.
use Rattle.model.proofs.Prelude.{rules}
use Rattle.text_line.proofs.DecimalLaws.{decimal_is, at-most-20}
use Rattle.text_line.proofs.inner.put_number.Goals as goal

pub returns : goal.returns
returns c = search (decimal_is, at-most-20, rules)
