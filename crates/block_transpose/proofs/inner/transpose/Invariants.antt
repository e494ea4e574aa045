-- `block_transpose::inner::transpose` meets its contract. The loop's invariant: the inputs below 8 * byte have their words, the others have 0.
use Rattle.block_transpose.proofs.TransposeCases.{Transposing}
use Rattle.block_transpose.proofs.inner.transpose.Given as goal

abbrev pub invariant-loop-byte : goal.invariant-loop-byte
invariant-loop-byte l = Transposing l.vectors l.first l.n l.words l.byte
