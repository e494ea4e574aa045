-- `listing_head::inner::listed_tables` meets its contract: the netlist's refusal, then the class's, then the tables.
use Rattle.model.proofs.AnswerLaws.{exit}
use Rattle.listing_head.proofs.HeadCases.{listed-cases}
use Rattle.listing_head.proofs.inner.listed_tables.Goals as goal

pub returns-in_err-tables : goal.returns-in_err-tables
returns-in_err-tables c = rw (exit _ _ c.from_residual.ensures.1) (search (c.in_err-tables.was, listed-cases))

pub returns-then-not-known : goal.returns-then-not-known
returns-then-not-known c = search (c.in_ok-tables.was, listed-cases)

pub returns : goal.returns
returns c = search (c.in_ok-tables.was, listed-cases)
