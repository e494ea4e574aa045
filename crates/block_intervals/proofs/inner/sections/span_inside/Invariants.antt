-- `block_intervals::inner::sections::span_inside` meets its contract. The invariant, `SpanWalk`: the runs so far lie in held runs.
use Rattle.model.proofs.Prelude.{◌-◌}
use Rattle.block_intervals.proofs.SectionCases.{SpanWalk}
use Rattle.block_intervals.proofs.inner.sections.span_inside.Given as goal

abbrev pub invariant-loop-i : goal.invariant-loop-i
invariant-loop-i l = SpanWalk l.words l.from l.to l.shift l.held l.i
