-- `store::asking::fault_on` meets its contract: the checks of the words, then the range of the fault, then the search of its edge for its path.
use Rattle.model.proofs.Prelude.{rules}
use Rattle.model.proofs.AnswerLaws.{exit}
use Rattle.store_words.proofs.SoundLaws.{checked_sound}
use Rattle.store.proofs.AskedSteps.{fault-refused, fault-low, fault-high, fault-found}
use Rattle.store.proofs.asking.fault_on.Goals as goal

pub returns-then-number-lt1 : goal.returns-then-number-lt1
returns-then-number-lt1 c = search (c.in_ok-check_words.was, fault-low, rules)

pub returns-then-paths-number : goal.returns-then-paths-number
returns-then-paths-number c = search (c.in_ok-check_words.was, fault-high, rules)

pub held-requires : goal.held-requires
held-requires c = search (c.in_ok-check_words.was, checked_sound, rules)

pub returns-in_err-check_words : goal.returns-in_err-check_words
returns-in_err-check_words c = rw (exit _ _ c.from_residual.ensures.1) (search (c.in_err-check_words.was, fault-refused, rules))

pub returns-then-held : goal.returns-then-held
returns-then-held c = search (c.in_ok-check_words.was, fault-found, rules)

pub returns-else-held : goal.returns-else-held
returns-else-held c = search (c.in_ok-check_words.was, fault-found, rules)
