-- `listing_lines::inner::put_pair` meets its contract: two numbers of at most 20 digits, a space between them and the end of the line.
use Rattle.model.proofs.Prelude.{arith}
use Rattle.text_line.proofs.DecimalLaws.{at-most-20}
use Rattle.listing_lines.proofs.ListingLineLaws.{pair_put}
use Rattle.listing_lines.proofs.inner.put_pair.Goals as goal

pub put_text-number-requires : goal.put_text-number-requires
put_text-number-requires c =
    omega (arith, at-most-20 c.args.first)

pub put_number-end-requires : goal.put_number-end-requires
put_number-end-requires c =
    omega (arith, at-most-20 c.args.first)

pub put_text-requires : goal.put_text-requires
put_text-requires c =
    omega (arith, at-most-20 c.args.first, at-most-20 c.args.second)

pub returns : goal.returns
returns c =
    pair_put c.args.out.now c.put_number-space.new.out c.put_text-number.new.out c.put_number-end.new.out c.put_text.new.out c.args.at c.put_number-space.result c.put_text-number.result c.put_number-end.result c.put_text.result c.args.first c.args.second
    c.requires c.put_number-space.ensures c.put_text-number.ensures c.put_number-end.ensures c.put_text.ensures
