-- `text_line::with_number` meets its contract: the digits that are written are those of the number.
use Rattle.model.proofs.Prelude.{rules}
use Rattle.text_line.proofs.DecimalLaws.{decimal_is}
use Rattle.text_line.proofs.with_number.Goals as goal

pub returns : goal.returns
returns c = search (decimal_is, rules)
