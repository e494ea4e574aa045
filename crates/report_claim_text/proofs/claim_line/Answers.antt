-- `report_claim_text::claim_line` meets its contract: the parts one after the other, and the line holds them all.
use mathlib.Core.Path.{◌∙◌}
use Rattle.report_claim_text.specs.Claims.{claim_text}
use Rattle.report_claim_text.proofs.LengthLaws.{claim_short}
use Rattle.text_line.proofs.LineLaws.{first_part, then-part, on_line-alone}
use Rattle.report_claim_text.proofs.claim_line.Goals as goal

pub returns : goal.returns
unfolding claim_text
returns c =
    let p1 = first_part _ _ _ c.empty_line.ensures c.with_kind.ensures in
    let p2 = then-part _ _ _ _ _ p1 c.with_text-kinds.ensures in
    let p3 = then-part _ _ _ _ _ p2 c.with_edge.ensures in
    let p4 = then-part _ _ _ _ _ p3 c.with_text-edges.ensures in
    let p5 = then-part _ _ _ _ _ p4 c.with_paths.ensures in
    p5 ∙ on_line-alone _ (claim_short c.args.kind c.args.edge c.args.low c.args.high)
