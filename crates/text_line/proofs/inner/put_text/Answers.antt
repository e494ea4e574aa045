-- `text_line::inner::put_text` meets its contract: the text is copied into the part of the buffer that is as long.
use Rattle.model.proofs.Prelude.{◌+◌, ◌-◌, length, arith, refl}
use Rattle.text_line.proofs.LineLaws.{put-part}
use Rattle.text_line.proofs.inner.put_text.Goals as goal

pub returns : goal.returns
returns c =
    let args = c.args in
    (put-part args.out.now args.at (args.at + length args.text.now - args.at) c.copy_from_slice.new.self args.text.now c.copy_from_slice.ensures.after (omega arith) c.requires, refl)
