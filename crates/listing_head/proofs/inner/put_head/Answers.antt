-- `listing_head::inner::put_head` meets its contract: the refusal that netlist and class come to, or the number of paths.
use Rattle.listing_head.proofs.HeadCases.{head-cases}
use Rattle.listing_head.proofs.inner.put_head.Goals as goal

pub returns-in-Err : goal.returns-in-Err
returns-in-Err c = search head-cases

pub returns-in-Ok : goal.returns-in-Ok
returns-in-Ok c = search head-cases
