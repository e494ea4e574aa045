-- `exhaust_undetected_text::fault_line` meets its contract: the parts one after the other, and the line holds them all.
use Rattle.model.proofs.Prelude.{◌∙◌}
use Rattle.exhaust_undetected_text.specs.UndetectedText.{fault_text}
use Rattle.exhaust_undetected_text.proofs.UndetectedLineCases.{fault-short, fault-parts}
use Rattle.text_line.proofs.LineLaws.{first_part, then-part, as_part, on_line-alone}
use Rattle.exhaust_undetected_text.proofs.fault_line.Goals as goal

pub returns : goal.returns
returns c =
    let p1 = first_part _ _ _ c.empty_line.ensures c.with_text.ensures in
    let p2 = then-part _ _ _ _ _ p1 c.with_number-number.ensures in
    let p3 = then-part _ _ _ _ _ p2 c.with_text-2.ensures in
    let p4 = then-part _ _ _ _ _ p3 c.with_edge-edge.ensures in
    let p5 = then-part _ _ _ _ _ p4 c.with_text-3.ensures in
    let p6 = then-part _ _ _ _ _ p5 c.with_number.ensures in
    let parts = fault-parts c.args.fault.0 c.path_of-path.result.0 c.edge_of.result c.edge_of.ensures c.path_of-path.ensures in
    as_part _ _ _ _ p6 parts ∙ on_line-alone (fault_text c.args.fault.0) (fault-short c.args.fault.0)
