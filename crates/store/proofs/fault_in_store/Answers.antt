-- `store::fault_in_store` meets its contract: the length of the store, then the survey, then the question for its number of paths.
use Rattle.model.proofs.Prelude.{rules}
use Rattle.model.proofs.AnswerLaws.{exit}
use Rattle.netlist.proofs.LoadLaws.{paths-fit}
use Rattle.store.proofs.CallSteps.{fault-short, fault-not_legal, fault-legal}
use Rattle.store.proofs.fault_in_store.Goals as goal

pub returns-then-store-ne-STORE_WORDS : goal.returns-then-store-ne-STORE_WORDS
returns-then-store-ne-STORE_WORDS c = search (fault-short, rules)

pub fault_on-requires : goal.fault_on-requires
fault_on-requires c = search (c.in_ok-legal.was, paths-fit, rules)

pub returns-in_err-legal : goal.returns-in_err-legal
returns-in_err-legal c = rw (exit _ _ c.from_residual.ensures.1) (search (c.in_err-legal.was, fault-not_legal, rules))

pub returns : goal.returns
returns c = search (c.in_ok-legal.was, fault-legal, rules)
