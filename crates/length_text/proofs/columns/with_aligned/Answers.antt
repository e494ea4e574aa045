-- `length_text::columns::with_aligned` meets its contract: as many blanks as the text leaves of the column, then the text.
use Rattle.model.proofs.Prelude.{◌≡◌, sym, length, replicate, length-take-le, arith, rules}
use Rattle.text_line.proofs.LineLaws.{then-part, as_part}
use Rattle.length_text.proofs.ColumnLaws.{aligned-made}
use Rattle.length_text.proofs.columns.with_aligned.Goals as goal

pub slice_bounds-with_text-end : goal.slice_bounds-with_text-end
slice_bounds-with_text-end c =
    sym (length-take-le c.blanks_before-gap.result (replicate 20 32) (omega (arith, c.blanks_before-gap.ensures, c.requires)))

pub slice_bounds-bytes-end : goal.slice_bounds-bytes-end
slice_bounds-bytes-end c =
    let long : length c.args.text.bytes ≡ 128 = search rules in
    omega (arith, c.line_length-end.ensures.1)

pub slice_bounds-with_text-end-2 : goal.slice_bounds-with_text-end-2
slice_bounds-with_text-end-2 c =
    let long : length c.args.text.bytes ≡ 128 = search rules in
    sym (length-take-le c.line_length-end.result c.args.text.bytes (omega (arith, c.line_length-end.ensures.1)))

pub returns : goal.returns
returns c =
    let both = then-part _ _ _ _ _ c.with_text-start.ensures c.with_text.ensures in
    as_part _ _ _ _ both
    (aligned-made c.args.width c.blanks_before-gap.result c.args.text.length c.line_length-end.result c.args.text.bytes c.requires c.line_length-end.ensures.0 c.blanks_before-gap.ensures)
