-- `text_percent::with_true_share` meets its contract: percent where the number is a part of the paths, else nothing.
use Rattle.text_line.proofs.LineLaws.{then-part, as_part}
use Rattle.text_percent.proofs.ShareCases.{some-paths-there, part-there, true_part, true_over}
use Rattle.text_percent.proofs.with_true_share.Goals as goal

pub with_percent-requires : goal.with_percent-requires
with_percent-requires c = (
  some-paths-there c.args.truth c.args.paths c.is_part.result c.is_part.ensures c.if-is_part.true,
  part-there c.args.truth c.args.paths c.is_part.result c.is_part.ensures c.if-is_part.true,
)

pub returns-then-is_part : goal.returns-then-is_part
returns-then-is_part c =
    let p1 = then-part _ _ _ _ _ c.with_text.ensures c.with_percent.ensures in
    let p2 = then-part _ _ _ _ _ p1 c.with_text-then-is_part.ensures in
    as_part _ _ _ _ p2 (true_part c.args.truth c.args.paths c.is_part.result c.is_part.ensures c.if-is_part.true)

pub returns : goal.returns
returns c =
    as_part _ _ _ _ c.with_text-2.ensures (true_over c.args.truth c.args.paths c.is_part.result c.is_part.ensures c.if-is_part.false)
