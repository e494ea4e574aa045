-- `report_runs::inner::head_of` meets its contract: each field is read at its place.
use Rattle.report_runs.proofs.EightByteLaws.{head_read}
use Rattle.report_runs.proofs.inner.head_of.Goals as goal

pub returns : goal.returns
returns c =
    let bytes = c.args.report.now in
    let tests = c.u16_at.ensures.0 in
    let later = c.u16_at-2.ensures.0 in
    let paths = c.number_at.ensures in
    let rising = c.u16_at-3.ensures.0 in
    let falling = c.u16_at-4.ensures.0 in
    head_read bytes _ _ _ _ _ _ _ tests later paths rising falling c.number_at-2.ensures c.number_at-3.ensures
