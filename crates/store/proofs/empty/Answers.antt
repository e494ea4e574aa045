-- `store::empty` meets its contract: words of a store's length are made zero, others are left as found.
use Rattle.model.proofs.Prelude.{rules}
use Rattle.store.proofs.CallSteps.{empty-refused, empty-done}
use Rattle.store.proofs.empty.Goals as goal

pub returns-then-store-eq-STORE_WORDS : goal.returns-then-store-eq-STORE_WORDS
returns-then-store-eq-STORE_WORDS c = search (empty-done, rules)

pub returns : goal.returns
returns c = search (empty-refused, rules)
