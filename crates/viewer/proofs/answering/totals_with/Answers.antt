-- `viewer::answering::totals_with` meets its contract: what looking refuses, then the sizes of what he sees.
use Rattle.model.proofs.AnswerLaws.{exit}
use Rattle.model.proofs.Prelude.{rules}
use Rattle.viewer.proofs.ViewCases.{own-few, view-cases}
use Rattle.viewer.proofs.answering.totals_with.Goals as goal

pub returns-in_err-count : goal.returns-in_err-count
returns-in_err-count c = rw (exit _ _ c.from_residual.ensures.1) (search (c.in_err-count.was, view-cases))

pub returns : goal.returns
returns c = search (c.in_ok-count.was, view-cases)

pub seen_size-falling-requires-clause-sound_words : goal.seen_size-falling-requires-clause-sound_words
seen_size-falling-requires-clause-sound_words c = search (c.in_ok-count.was, own-few, view-cases, rules)

pub seen_size-rising-requires-clause-sound_words : goal.seen_size-rising-requires-clause-sound_words
seen_size-rising-requires-clause-sound_words c = search (c.in_ok-count.was, own-few, view-cases, rules)
