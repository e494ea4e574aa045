-- `block_transpose::inner::gather_8x8` meets its contract. The loop's invariant: the records from t on stand in the lowest bits of each byte.
use Rattle.block_transpose.proofs.Gather8x8Cases.{Gathering}
use Rattle.block_transpose.proofs.inner.gather_8x8.Given as goal

abbrev pub invariant-loop-t : goal.invariant-loop-t
invariant-loop-t l = Gathering l.vectors l.first l.shift l.word l.t
