-- `listing_walk::inner::list_pieces` meets its contract. The invariant, `ListedSoFar`: what was read so far is whole records, and they were listed.
use Rattle.model.proofs.Prelude.{◌-◌, arith, rules}
use Rattle.listing_walk.proofs.ListingCases.{list-inputs, listing-cases}
use Rattle.listing_walk.proofs.inner.list_pieces.Goals as goal

pub record_length-requires : goal.record_length-requires
record_length-requires c =
    list-inputs c.requires.0

pub loop-so_far-init : goal.loop-so_far-init
loop-so_far-init c = (search listing-cases, search rules, search rules, search rules, search rules)

pub read_part-n-requires : goal.read_part-n-requires
read_part-n-requires c = search listing-cases

pub list_read-lines-requires : goal.list_read-lines-requires
list_read-lines-requires c = search listing-cases

pub returns-then-n-full_piece : goal.returns-then-n-full_piece
returns-then-n-full_piece c = search listing-cases

pub loop-so_far-preserved : goal.loop-so_far-preserved
loop-so_far-preserved c = (search listing-cases, search rules, search rules, search rules, search rules)

pub returns : goal.returns
returns c = search listing-cases
