-- `block_transpose::inner::scatter_bytes` meets its contract. The loop's invariant: the bytes below i are put, those from i on are left.
use Rattle.block_transpose.proofs.ScatterBytesCases.{Scattering}
use Rattle.block_transpose.proofs.inner.scatter_bytes.Given as goal

abbrev pub invariant-loop-i : goal.invariant-loop-i
invariant-loop-i l = Scattering l.word l.first l.place l.initial.words l.words l.left l.i
