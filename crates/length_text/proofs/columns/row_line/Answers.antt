-- `length_text::columns::row_line` meets its contract: the columns one after the other, and the line holds them all.
use Rattle.model.proofs.Prelude.{◌∙◌, ap}
use Rattle.text_line.specs.Lines.{text_of}
use Rattle.text_line.proofs.LineLaws.{first_part, then-part, as_part, on_line-alone}
use Rattle.length_text.specs.LengthTable.{aligned, row_text}
use Rattle.length_text.proofs.ColumnLaws.{row-short}
use Rattle.length_text.proofs.columns.row_line.Goals as goal

pub returns : goal.returns
unfolding row_text
returns c =
    let p1 = first_part _ _ _ c.empty_line.ensures c.with_aligned-named.ensures in
    let f1 = as_part _ _ _ _ c.with_aligned-counted.ensures (ap (aligned 20) c.number_line.ensures) in
    let f2 = as_part _ _ _ _ c.with_aligned-first.ensures (ap (aligned 20) c.number_line-2.ensures) in
    let f3 = as_part _ _ _ _ c.with_aligned-both.ensures (ap (aligned 20) c.number_line-3.ensures) in
    let f4 = as_part _ _ _ _ c.with_aligned.ensures (ap (aligned 9) c.share_line.ensures) in
    let p2 = then-part _ _ _ _ _ p1 f1 in
    let p3 = then-part _ _ _ _ _ p2 f2 in
    let p4 = then-part _ _ _ _ _ p3 f3 in
    let p5 = then-part _ _ _ _ _ p4 f4 in
    p5 ∙ on_line-alone _ (row-short (text_of c.args.name) c.args.paths c.args.rising c.args.falling c.requires)
