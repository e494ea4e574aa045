-- `store_coverage::inner::count_answer` meets its contract: the store is sound after a stage that passed, and what is new is the difference of its totals.
use Rattle.model.proofs.Prelude.{rules}
use Rattle.model.proofs.AnswerLaws.{exit}
use Rattle.store_coverage.proofs.TestCallLaws.{count-refused, after-sound, more-rising, more-falling, count-taken}
use Rattle.store_coverage.proofs.inner.count_answer.Goals as goal

pub overflow_sub-result : goal.overflow_sub-result
overflow_sub-result c = search (c.in_ok-answer.was, more-rising, rules)

pub overflow_sub-result-2 : goal.overflow_sub-result-2
overflow_sub-result-2 c = search (c.in_ok-answer.was, more-falling, rules)

pub returns-in_err-answer : goal.returns-in_err-answer
returns-in_err-answer c = rw (exit _ _ c.from_residual.ensures.1) (search (c.in_err-answer.was, count-refused, rules))

pub returns : goal.returns
returns c = search (c.in_ok-answer.was, count-taken, rules)

pub totals_of-after-requires : goal.totals_of-after-requires
totals_of-after-requires c = search (c.in_ok-answer.was, after-sound, rules)
