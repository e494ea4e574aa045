-- `listing_lines::inner::put_refusal` meets its contract: the word `refused` and the number of the refusal.
use Rattle.model.proofs.Prelude.{rules}
use Rattle.listing_lines.proofs.ListingLineLaws.{refusal-put}
use Rattle.listing_lines.proofs.inner.put_refusal.Goals as goal

pub returns : goal.returns
returns c = search (refusal-put, rules)
