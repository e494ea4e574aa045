-- `store::totals` meets its contract: the length of the store, then the survey, then the totals for its number of paths.
use Rattle.model.proofs.Prelude.{rules}
use Rattle.model.proofs.AnswerLaws.{exit}
use Rattle.netlist.proofs.LoadLaws.{paths-fit}
use Rattle.store.proofs.CallSteps.{totals-short, totals-not_legal, totals-legal}
use Rattle.store.proofs.totals.Goals as goal

pub returns-then-store-ne-STORE_WORDS : goal.returns-then-store-ne-STORE_WORDS
returns-then-store-ne-STORE_WORDS c = search (totals-short, rules)

pub totals_on-requires : goal.totals_on-requires
totals_on-requires c = search (c.in_ok-legal.was, paths-fit, rules)

pub returns-in_err-legal : goal.returns-in_err-legal
returns-in_err-legal c = rw (exit _ _ c.from_residual.ensures.1) (search (c.in_err-legal.was, totals-not_legal, rules))

pub returns : goal.returns
returns c = search (c.in_ok-legal.was, totals-legal, rules)
