-- `store::asking::totals_on` meets its contract: words that pass the checks are sound, and their sizes are the totals.
use Rattle.model.proofs.Prelude.{rules}
use Rattle.model.proofs.AnswerLaws.{exit}
use Rattle.store_words.proofs.SoundLaws.{checked_sound}
use Rattle.store.proofs.AskedSteps.{checked_refused, checked_totals}
use Rattle.store.proofs.asking.totals_on.Goals as goal

pub totals_of-held-requires : goal.totals_of-held-requires
totals_of-held-requires c = search (c.in_ok-check_words.was, checked_sound, rules)

pub returns-in_err-check_words : goal.returns-in_err-check_words
returns-in_err-check_words c = rw (exit _ _ c.from_residual.ensures.1) (search (c.in_err-check_words.was, checked_refused, rules))

pub returns : goal.returns
returns c = search (c.in_ok-check_words.was, checked_totals, rules)
