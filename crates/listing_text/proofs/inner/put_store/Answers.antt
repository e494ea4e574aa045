-- `listing_text::inner::put_store` meets its contract: the lines of the rising runs, then those of the falling ones, then the totals.
use Rattle.listing_text.proofs.StoreTextLaws.{store-put}
use Rattle.listing_text.proofs.inner.put_store.Goals as goal

pub returns : goal.returns
returns c =
    store-put _ _ _ _ _ _ _ _ c.put_rising-falling.ensures.0 c.put_falling-totals.ensures.0 c.put_totals.ensures
