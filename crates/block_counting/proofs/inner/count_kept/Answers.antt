-- `block_counting::inner::count_kept` meets its contract, case by case.
use Rattle.model.proofs.AnswerLaws.{exit}
use Rattle.block_counting.proofs.CountBothLaws.{kept-cases}
use Rattle.block_counting.proofs.inner.count_kept.Goals as goal

pub returns-in_err-answer : goal.returns-in_err-answer
returns-in_err-answer c = rw (exit _ _ c.from_residual.ensures.1) (search (c.in_err-answer.was, kept-cases))

pub returns : goal.returns
returns c = search (c.in_ok-answer.was, kept-cases)
