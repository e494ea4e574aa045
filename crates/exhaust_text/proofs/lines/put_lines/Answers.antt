-- `exhaust_text::lines::put_lines` meets its contract: the lines of the store, then the line on what it does not hold.
use Rattle.exhaust_text.proofs.StoreLineCases.{line-cases}
use Rattle.exhaust_text.proofs.lines.put_lines.Goals as goal

pub put_store-end-requires : goal.put_store-end-requires
put_store-end-requires c = (search line-cases, search line-cases)

pub put_line-requires : goal.put_line-requires
put_line-requires c = search line-cases

pub returns : goal.returns
returns c = search line-cases
