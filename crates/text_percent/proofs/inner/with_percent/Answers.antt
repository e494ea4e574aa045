-- `text_percent::inner::with_percent` meets its contract: the whole percent, then the tenth.
use Rattle.text_line.proofs.LineLaws.{then-part, as_part}
use Rattle.text_percent.proofs.ShareCases.{percent_parts}
use Rattle.text_percent.proofs.inner.with_percent.Goals as goal

pub returns : goal.returns
returns c =
    let p1 = then-part _ _ _ _ _ c.with_number.ensures c.with_text-whole_percent.ensures in
    let p2 = then-part _ _ _ _ _ p1 c.with_number-2.ensures in
    let p3 = then-part _ _ _ _ _ p2 c.with_text.ensures in
    as_part _ _ _ _ p3 (percent_parts c.thousandths-share.result c.args.part c.args.whole c.thousandths-share.ensures)
