-- `record_test::inner::some_change` meets its contract. The loop's invariant: the bytes before k are equal.
use Rattle.model.proofs.Prelude.{◌≤◌}
use Rattle.record_test.proofs.ChangeLaws.{EqualBefore}
use Rattle.record_test.proofs.inner.some_change.Given as goal

abbrev pub invariant-loop-k : goal.invariant-loop-k
invariant-loop-k l = (l.k ≤ l.bytes) × EqualBefore l.v1 l.v2 l.k
