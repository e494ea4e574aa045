-- `ask_text::inner::put_last` meets its contract: no text where the last line has no byte, else its answer.
use Rattle.ask_text.proofs.AnswerSteps.{last-cases}
use Rattle.ask_text.proofs.inner.put_last.Goals as goal

pub returns-in-Nothing : goal.returns-in-Nothing
returns-in-Nothing c = search last-cases

pub returns-in-Number : goal.returns-in-Number
returns-in-Number c = search last-cases

pub returns-in-Wrong : goal.returns-in-Wrong
returns-in-Wrong c = search last-cases
