-- `store_writing::inner::write_places` meets its contract: the runs after the replaced ones, then those in their place, then zeros up to the words that are zero already.
use Rattle.model.proofs.Prelude.{rules}
use Rattle.store_writing.proofs.EdgeWriteLaws.{places-written}
use Rattle.store_writing.proofs.inner.write_places.Goals as goal

pub returns : goal.returns
returns c = search (places-written, rules)
