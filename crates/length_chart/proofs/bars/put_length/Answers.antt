-- `length_chart::bars::put_length` meets its contract: a group of lines where there is a path.
use native.Mathlib.Omega.{arith}
use Rattle.text_buffer.proofs.WrittenLaws.{none_written, written_as}
use Rattle.length_chart.proofs.LengthBarCases.{no-bars, bars_written}
use Rattle.length_chart.proofs.bars.put_length.Goals as goal

pub returns-then-paths-eq0 : goal.returns-then-paths-eq0
returns-then-paths-eq0 c =
    let none = none_written c.args.out.now c.args.at (omega arith) in
    (written_as (no-bars c.args.gates c.args.paths c.args.rising c.args.falling (omega arith)) none, omega arith)

pub put_plain-requires : goal.put_plain-requires
put_plain-requires c =
    omega (arith, c.put_pair-end.ensures.1, c.put_numbered-bars.ensures.1, c.put_title-label.ensures.1, c.put_numbered-title.ensures.1, c.requires)

pub returns : goal.returns
returns c = (
  bars_written c.args.gates c.args.paths c.args.rising c.args.falling c.height_of.result c.height_of-2.result (omega (arith, c.if-paths-eq0.false))
      c.height_of.ensures c.height_of-2.ensures c.put_numbered-title.ensures.0 c.put_title-label.ensures.0 c.put_numbered-bars.ensures.0 c.put_pair-end.ensures.0 c.put_plain.ensures.0,
  omega (arith, c.put_numbered-title.ensures.1, c.put_title-label.ensures.1, c.put_numbered-bars.ensures.1, c.put_pair-end.ensures.1, c.put_plain.ensures.1),
)
