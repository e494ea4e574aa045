-- `text_percent::with_claimed_share` meets its contract: with percent where the number is a part of the paths.
use Rattle.text_line.proofs.LineLaws.{then-part, as_part}
use Rattle.text_percent.proofs.ShareCases.{some-paths-there, part-there, claimed_part, claimed_over}
use Rattle.text_percent.proofs.with_claimed_share.Goals as goal

pub with_percent-share-requires : goal.with_percent-share-requires
with_percent-share-requires c = (
  some-paths-there c.args.claimed c.args.paths c.is_part.result c.is_part.ensures c.if-is_part.true,
  part-there c.args.claimed c.args.paths c.is_part.result c.is_part.ensures c.if-is_part.true,
)

pub returns-then-is_part : goal.returns-then-is_part
returns-then-is_part c =
    let p1 = then-part _ _ _ _ _ c.with_text.ensures c.with_percent-share.ensures in
    let p2 = then-part _ _ _ _ _ p1 c.with_text-then-is_part.ensures in
    let p3 = then-part _ _ _ _ _ p2 c.with_count-total.ensures in
    let p4 = then-part _ _ _ _ _ p3 c.with_text-then-is_part-2.ensures in
    as_part _ _ _ _ p4 (claimed_part c.args.claimed c.args.paths c.is_part.result c.is_part.ensures c.if-is_part.true)

pub returns : goal.returns
returns c =
    let p1 = then-part _ _ _ _ _ c.with_text-2.ensures c.with_count.ensures in
    let p2 = then-part _ _ _ _ _ p1 c.with_text-3.ensures in
    as_part _ _ _ _ p2 (claimed_over c.args.claimed c.args.paths c.is_part.result c.is_part.ensures c.if-is_part.false)
