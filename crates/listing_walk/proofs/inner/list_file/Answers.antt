-- `listing_walk::inner::list_file` meets its contract: the lines that wait lie in the buffer, the store that the records leave is sound, and the lines after
-- theirs are its lines.
use Rattle.listing_walk.proofs.ListingCases.{lines-cases}
use Rattle.listing_walk.proofs.inner.list_file.Goals as goal

pub slice_bounds-write_all-end-2 : goal.slice_bounds-write_all-end-2
slice_bounds-write_all-end-2 c = search lines-cases

pub put_store-end-requires : goal.put_store-end-requires
put_store-end-requires c = (search lines-cases, search lines-cases)

pub returns : goal.returns
returns c = search lines-cases
