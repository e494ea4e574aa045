-- `exhaust::exhaust` meets its contract: each return is one case of the call.
use Rattle.model.proofs.AnswerLaws.{exit}
use Rattle.exhaust.proofs.ExhaustCases.{exhaust-cases}
use Rattle.exhaust.proofs.exhaust.Goals as goal

pub returns-then-store-ne-STORE_WORDS : goal.returns-then-store-ne-STORE_WORDS
returns-then-store-ne-STORE_WORDS c = search exhaust-cases

pub returns-then-work-lt-WORK_WORDS : goal.returns-then-work-lt-WORK_WORDS
returns-then-work-lt-WORK_WORDS c = search exhaust-cases

pub returns-in_err-loaded : goal.returns-in_err-loaded
returns-in_err-loaded c = rw (exit _ _ c.from_residual.ensures.1) (search (c.in_err-loaded.was, exhaust-cases))

pub returns-then-not-known : goal.returns-then-not-known
returns-then-not-known c = search (c.in_ok-loaded.was, exhaust-cases)

pub returns-then-loaded-gt-MOST_INPUTS : goal.returns-then-loaded-gt-MOST_INPUTS
returns-then-loaded-gt-MOST_INPUTS c = search (c.in_ok-loaded.was, exhaust-cases)

pub apply_pairs-requires : goal.apply_pairs-requires
apply_pairs-requires c = search (c.in_ok-loaded.was, exhaust-cases)

pub returns : goal.returns
returns c = search (c.in_ok-loaded.was, exhaust-cases)
