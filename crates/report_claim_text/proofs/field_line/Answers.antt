-- `report_claim_text::field_line` meets its contract: the parts one after the other, and the line holds them all.
use mathlib.Core.Path.{◌∙◌}
use Rattle.report_claim_text.specs.Claims.{field_text}
use Rattle.report_claim_text.proofs.LengthLaws.{field-line-short}
use Rattle.text_line.proofs.LineLaws.{first_part, then-part, on_line-alone}
use Rattle.report_claim_text.proofs.field_line.Goals as goal

pub returns : goal.returns
unfolding field_text
returns c =
    let p1 = first_part _ _ _ c.empty_line.ensures c.with_field.ensures in
    let p2 = then-part _ _ _ _ _ p1 c.with_text-name.ensures in
    let p3 = then-part _ _ _ _ _ p2 c.with_number.ensures in
    let p4 = then-part _ _ _ _ _ p3 c.with_text.ensures in
    let p5 = then-part _ _ _ _ _ p4 c.with_number-2.ensures in
    p5 ∙ on_line-alone _ (field-line-short c.args.field c.args.claimed c.args.truth)
