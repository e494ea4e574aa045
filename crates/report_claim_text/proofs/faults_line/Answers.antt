-- `report_claim_text::faults_line` meets its contract: the parts one after the other, and the line holds them all.
use mathlib.Core.Path.{◌∙◌}
use Rattle.report_claim_text.specs.Claims.{faults_text}
use Rattle.report_claim_text.proofs.LengthLaws.{faults-short}
use Rattle.text_line.proofs.LineLaws.{first_part, then-part, on_line-alone}
use Rattle.report_claim_text.proofs.faults_line.Goals as goal

pub returns : goal.returns
unfolding faults_text
returns c =
    let p1 = first_part _ _ _ c.empty_line.ensures c.with_edge.ensures in
    let p2 = then-part _ _ _ _ _ p1 c.with_text-name.ensures in
    let p3 = then-part _ _ _ _ _ p2 c.with_number.ensures in
    let p4 = then-part _ _ _ _ _ p3 c.with_claimed_share-first.ensures in
    let p5 = then-part _ _ _ _ _ p4 c.with_text.ensures in
    let p6 = then-part _ _ _ _ _ p5 c.with_number-second.ensures in
    let p7 = then-part _ _ _ _ _ p6 c.with_true_share.ensures in
    p7 ∙ on_line-alone _ (faults-short c.args.edge c.args.claimed c.args.truth c.args.paths)
