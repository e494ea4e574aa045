-- `block_activity::inner::marks::write_marks` meets its contract. The loop's invariant: the marks of the records before t are written, and no other place is.
use Rattle.model.proofs.Prelude.{arith}
use Rattle.block_activity.proofs.MarkWriteCases.{write_start, write_step, write_end}
use Rattle.block_activity.proofs.inner.marks.write_marks.Goals as goal

pub loop-t-init : goal.loop-t-init
loop-t-init c = (omega arith, write_start _ _ _ _ c.args.records _)

pub overflow_cast-marks : goal.overflow_cast-marks
overflow_cast-marks c =
    let given = c.requires in
    omega (arith, given.0, given.3 c.loop-t.t (omega (arith, c.loop-t-test.true, given.0)))

pub loop-t-preserved : goal.loop-t-preserved
loop-t-preserved c = (
  omega (arith, c.loop-t-test.true),
  write_step _ _ _ _ c.args.records _ c.loop-t.invariant.1 c.requires.2 c.requires.1 c.requires.0 c.loop-t-test.true,
)

pub returns : goal.returns
returns c = write_end c.loop-t.invariant.0 c.loop-t-test.false c.loop-t.invariant.1
