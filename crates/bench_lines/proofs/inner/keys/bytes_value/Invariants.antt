-- `bench_lines::inner::keys::bytes_value` meets its contract: the bytes passed, from the last on, have the value so far.
use Rattle.bench_lines.proofs.ValueLaws.{ValueSoFar}
use Rattle.bench_lines.proofs.inner.keys.bytes_value.Given as goal

abbrev pub invariant-loop-at : goal.invariant-loop-at
invariant-loop-at l = ValueSoFar l.line l.from l.to l.at l.value
