-- `store_writing::inner::clear` meets its contract: all words are the part that is made zero.
use Rattle.model.proofs.Prelude.{rules}
use Rattle.store_writing.proofs.EdgeWriteLaws.{zeroed-all}
use Rattle.store_writing.proofs.inner.clear.Goals as goal

pub returns : goal.returns
returns c = search (zeroed-all, rules)
