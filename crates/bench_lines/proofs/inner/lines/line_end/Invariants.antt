-- `bench_lines::inner::lines::line_end` meets its contract: the bytes passed belong to the line.
use Rattle.bench_lines.proofs.TextLineLaws.{LineSoFar}
use Rattle.bench_lines.proofs.inner.lines.line_end.Given as goal

abbrev pub invariant-loop-i : goal.invariant-loop-i
invariant-loop-i l = LineSoFar l.text l.at l.i
