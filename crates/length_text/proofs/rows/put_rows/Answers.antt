-- `length_text::rows::put_rows` meets its contract. The invariant: the lines of the lengths below `i` are written, of at most 129 bytes each.
use Rattle.model.proofs.Prelude.{◌≡◌, ap, arith}
use Rattle.text_buffer.specs.Written.{each_below_of}
use Rattle.text_buffer.proofs.WrittenLaws.{none_below, one-more-below, written_as, written-length}
use Rattle.length_text.specs.LengthTable.{row_at}
use Rattle.length_text.proofs.rows.put_rows.Goals as goal

pub loop-i-init : goal.loop-i-init
loop-i-init c =
    (omega arith, omega arith, none_below (row_at c.args.paths.now c.args.rising.now c.args.falling.now) c.args.out.now c.args.start (omega arith))

pub put_length-at-requires : goal.put_length-at-requires
put_length-at-requires c =
    omega (arith, written-length c.loop-i.invariant.2, c.loop-i.invariant.1)

pub loop-i-preserved : goal.loop-i-preserved
loop-i-preserved c =
    let more = one-more-below (row_at c.args.paths.now c.args.rising.now c.args.falling.now) c.loop-i.i c.loop-i.invariant.2 c.put_length-at.ensures.0 in
    (omega arith, omega (arith, c.put_length-at.ensures.1, c.loop-i.invariant.1), more)

pub shape_of-out : goal.shape_of-out
shape_of-out c = written-length c.loop-i.invariant.2

pub returns : goal.returns
returns c =
    let all : c.loop-i.i ≡ 64 = omega arith in
    let lines = each_below_of (row_at c.args.paths.now c.args.rising.now c.args.falling.now) in
    (written_as (ap lines all) c.loop-i.invariant.2, omega (arith, c.loop-i.invariant.1))
