-- `listing_lines::inner::put_line` meets its contract: the place and a space, then two numbers or the refusal.
use Rattle.model.proofs.Prelude.{arith}
use Rattle.text_line.proofs.DecimalLaws.{at-most-20}
use Rattle.listing_lines.proofs.ListingLineLaws.{line_taken, line_refused}
use Rattle.listing_lines.proofs.inner.put_line.Goals as goal

pub put_text-rest-requires : goal.put_text-rest-requires
put_text-rest-requires c =
    omega (arith, at-most-20 c.args.place)

pub put_pair-requires : goal.put_pair-requires
put_pair-requires c =
    omega (arith, at-most-20 c.args.place)

pub returns-then-refusal-eq0 : goal.returns-then-refusal-eq0
returns-then-refusal-eq0 c =
    line_taken c.args.out.now c.put_number-space.new.out c.put_text-rest.new.out c.put_pair.new.out c.args.at c.put_number-space.result c.put_text-rest.result c.put_pair.result c.args.place c.requires c.put_number-space.ensures c.put_text-rest.ensures
    c.args.new_rising c.args.new_falling c.args.refusal c.if-refusal-eq0.true c.put_pair.ensures

pub put_numbered-requires : goal.put_numbered-requires
put_numbered-requires c =
    omega (arith, at-most-20 c.args.place)

pub returns : goal.returns
returns c =
    line_refused c.args.out.now c.put_number-space.new.out c.put_text-rest.new.out c.put_numbered.new.out c.args.at c.put_number-space.result c.put_text-rest.result c.put_numbered.result c.args.place c.requires c.put_number-space.ensures c.put_text-rest.ensures
    c.args.new_rising c.args.new_falling c.args.refusal c.if-refusal-eq0.false c.put_numbered.ensures.0
