-- `ask_text::inner::answer_lines::put_answer` meets its contract, case by case of what the line states.
use Rattle.model.proofs.Prelude.{rules}
use Rattle.ask_text.proofs.AnswerLineCases.{line-cases}
use Rattle.ask_text.proofs.inner.answer_lines.put_answer.Goals as goal

pub returns-in-Nothing : goal.returns-in-Nothing
returns-in-Nothing c = (search line-cases, search rules)

pub returns-in-Number : goal.returns-in-Number
returns-in-Number c = (search line-cases, search rules)

pub returns-in-Wrong : goal.returns-in-Wrong
returns-in-Wrong c = (search line-cases, search rules)
