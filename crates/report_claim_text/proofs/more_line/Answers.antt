-- `report_claim_text::more_line` meets its contract: the parts one after the other, and the line holds them all.
use mathlib.Core.Path.{◌∙◌}
use Rattle.report_claim_text.specs.Claims.{more_text}
use Rattle.report_claim_text.proofs.LengthLaws.{more-short}
use Rattle.text_line.proofs.LineLaws.{first_part, then-part, on_line-alone}
use Rattle.report_claim_text.proofs.more_line.Goals as goal

pub returns : goal.returns
unfolding more_text
returns c =
    let p1 = first_part _ _ _ c.empty_line.ensures c.with_text.ensures in
    let p2 = then-part _ _ _ _ _ p1 c.with_number-number.ensures in
    let p3 = then-part _ _ _ _ _ p2 c.with_text-2.ensures in
    let p4 = then-part _ _ _ _ _ p3 c.with_plural.ensures in
    p4 ∙ on_line-alone _ (more-short c.args.kind c.args.count)
