-- `listing_lines::inner::put_lines` meets its contract. The invariant, `PuttingLines`: the lines of the first t answers are put.
use Rattle.model.proofs.Prelude.{◌-◌, arith}
use Rattle.listing_lines.proofs.ListingLineLaws.{lines_start, lines-most, lines_next, lines-done}
use Rattle.listing_lines.proofs.inner.put_lines.Goals as goal

pub loop-t-init : goal.loop-t-init
loop-t-init c = lines_start _ _ _ _ _ (omega (arith, c.requires.1))

pub put_line-at-requires : goal.put_line-at-requires
put_line-at-requires c =
    let l = c.loop-t in
    let ready = c.requires in
    omega (arith, c.loop-t-test.true, lines-most _ _ _ _ _ l.invariant, l.invariant.room, ready.1)

pub overflow_add-place : goal.overflow_add-place
overflow_add-place c =
    omega (arith, c.loop-t-test.true, c.loop-t.invariant.place_is_of, c.requires.2)

pub loop-t-preserved : goal.loop-t-preserved
loop-t-preserved c =
    lines_next _ _ _ _ _ c.loop-t.invariant c.loop-t-test.true c.put_line-at.ensures

pub returns : goal.returns
returns c = lines-done _ _ _ _ _ c.loop-t.invariant c.loop-t-test.false
