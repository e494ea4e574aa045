-- `block_activity::inner::marks::write_marks` meets its contract. The loop's invariant: the marks of the records before t are written, and no other place is.
use Rattle.model.proofs.Prelude.{◌≤◌}
use Rattle.block_activity.specs.EdgeMarks.{EdgeWritten}
use Rattle.block_activity.proofs.inner.marks.write_marks.Given as goal

abbrev pub invariant-loop-t : goal.invariant-loop-t
invariant-loop-t l = (l.t ≤ l.records) × EdgeWritten l.vectors l.t l.first l.outs l.lens l.initial.marks l.marks
