-- `block_transpose::inner::transpose_column` meets its contract. The loop's invariant: the records below t stand in the eight words, and nothing above them.
use Rattle.block_transpose.proofs.TransposeCases.{Standing}
use Rattle.block_transpose.proofs.inner.transpose_column.Given as goal

abbrev pub invariant-loop-t : goal.invariant-loop-t
invariant-loop-t l = Standing l.vectors l.first l.byte l.initial.words l.words l.t
