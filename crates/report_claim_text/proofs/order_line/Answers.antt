-- `report_claim_text::order_line` meets its contract: the parts one after the other, and the line holds them all.
use mathlib.Core.Path.{◌∙◌}
use Rattle.report_claim_text.specs.Claims.{order_text}
use Rattle.report_claim_text.proofs.LengthLaws.{order-short}
use Rattle.text_line.proofs.LineLaws.{first_part, then-part, on_line-alone}
use Rattle.report_claim_text.proofs.order_line.Goals as goal

pub returns : goal.returns
unfolding order_text
returns c =
    let p1 = first_part _ _ _ c.empty_line.ensures c.with_edge.ensures in
    let p2 = then-part _ _ _ _ _ p1 c.with_text-name.ensures in
    let p3 = then-part _ _ _ _ _ p2 c.with_number.ensures in
    let p4 = then-part _ _ _ _ _ p3 c.with_text-place.ensures in
    let p5 = then-part _ _ _ _ _ p4 c.with_number-2.ensures in
    let p6 = then-part _ _ _ _ _ p5 c.with_text.ensures in
    let p7 = then-part _ _ _ _ _ p6 c.with_number-ends.ensures in
    let p8 = then-part _ _ _ _ _ p7 c.with_text-2.ensures in
    p8 ∙ on_line-alone _ (order-short c.args.edge c.args.number c.args.low c.args.high)
