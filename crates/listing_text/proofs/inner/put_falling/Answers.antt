-- `listing_text::inner::put_falling` meets its contract: a store's falling runs are those of the words that it hands out for that edge.
use Rattle.model.proofs.Prelude.{rules}
use Rattle.listing_text.proofs.RunSteps.{edge-cases}
use Rattle.listing_text.proofs.inner.put_falling.Goals as goal

pub returns : goal.returns
returns c = search (edge-cases, rules)
