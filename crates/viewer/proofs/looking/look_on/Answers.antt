-- `viewer::looking::look_on` meets its contract: what the store's words or the places refuse, then the ranges.
use Rattle.model.proofs.AnswerLaws.{exit}
use Rattle.viewer.proofs.ViewerLookCases.{look-cases}
use Rattle.viewer.proofs.looking.look_on.Goals as goal

pub check_words-requires : goal.check_words-requires
check_words-requires c = search look-cases

pub returns-then-not-fit : goal.returns-then-not-fit
returns-then-not-fit c = search (c.in_ok-check_words.was, look-cases)

pub view_ranges-count-requires : goal.view_ranges-count-requires
view_ranges-count-requires c = search (c.in_ok-check_words.was, look-cases)

pub returns-in_err-check_words : goal.returns-in_err-check_words
returns-in_err-check_words c = rw (exit _ _ c.from_residual.ensures.1) (search (c.in_err-check_words.was, look-cases))

pub returns : goal.returns
returns c = search (c.in_ok-check_words.was, look-cases)
