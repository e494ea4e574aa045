-- `listing_text::inner::put_run` meets its contract: the letter of the edge, then two numbers.
use Rattle.model.proofs.Prelude.{arith}
use Rattle.text_buffer.proofs.WrittenLaws.{written, then-written}
use Rattle.listing_text.proofs.inner.put_run.Goals as goal

pub returns : goal.returns
returns c =
    then-written (written {out = c.args.out.now} {at = c.args.at} {t = c.args.letter.now} (omega (arith, c.requires)) c.put_text-numbers.ensures) c.put_pair.ensures
