-- `listing_blocks::blocks::next_answer` meets its contract, case by case.
use Rattle.model.proofs.Prelude.{inl, inr, arith, rules}
use Rattle.listing_blocks.proofs.PartCases.{next-none}
use Rattle.listing_blocks.proofs.blocks.next_answer.Goals as goal

pub returns-then-records-ge64 : goal.returns-then-records-ge64
returns-then-records-ge64 c = next-none (inl c.if-records-ge64.true)

pub returns : goal.returns
returns c = next-none (inr (omega (arith, c.if-used-length.false)))
