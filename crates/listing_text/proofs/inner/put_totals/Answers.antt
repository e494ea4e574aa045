-- `listing_text::inner::put_totals` meets its contract: the line of the rising faults, then that of the falling ones.
use Rattle.model.proofs.Prelude.{arith}
use Rattle.text_buffer.proofs.WrittenLaws.{written-length}
use Rattle.listing_text.proofs.StoreTextLaws.{totals-put}
use Rattle.listing_text.proofs.inner.put_totals.Goals as goal

pub put_numbered-requires : goal.put_numbered-requires
put_numbered-requires c =
    omega (arith, c.put_numbered-mid.ensures.1, written-length c.put_numbered-mid.ensures.0)

pub returns : goal.returns
returns c =
    totals-put c.args.out.now c.put_numbered-mid.new.out c.put_numbered.new.out c.args.words.now c.args.start c.put_numbered-mid.result c.put_numbered.result c.totals_of-held.result c.totals_of-held.ensures c.put_numbered-mid.ensures.0 c.put_numbered.ensures.0
