-- `viewer::answering::holds_with` meets its contract: what looking refuses, then the question.
use Rattle.model.proofs.AnswerLaws.{exit}
use Rattle.model.proofs.Prelude.{rules}
use Rattle.viewer.proofs.ViewCases.{own-few, view-cases}
use Rattle.viewer.proofs.answering.holds_with.Goals as goal

pub returns-in_err-count : goal.returns-in_err-count
returns-in_err-count c = rw (exit _ _ c.from_residual.ensures.1) (search (c.in_err-count.was, view-cases))

pub returns : goal.returns
returns c = search (c.in_ok-count.was, view-cases)

pub ask-requires-clause-sound : goal.ask-requires-clause-sound
ask-requires-clause-sound c = search (c.in_ok-count.was, own-few, view-cases, rules)

pub ask-requires-clause-sound_words : goal.ask-requires-clause-sound_words
ask-requires-clause-sound_words c = search (c.in_ok-count.was, own-few, view-cases, rules)
