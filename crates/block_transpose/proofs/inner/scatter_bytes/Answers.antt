-- `block_transpose::inner::scatter_bytes` meets its contract. The loop's invariant: the bytes below i are put, those from i on are left.
use Rattle.model.proofs.Prelude.{arith}
use Rattle.block_transpose.proofs.ScatterBytesCases.{scatter_bytes-start, scatter_bytes-step, scatter_bytes-end}
use Rattle.block_transpose.proofs.inner.scatter_bytes.Goals as goal

pub loop-i-init : goal.loop-i-init
loop-i-init c = scatter_bytes-start

pub overflow_add-words : goal.overflow_add-words
overflow_add-words c = omega (arith, c.requires.0, c.loop-i-test.true)

pub offset_bounds-words-first : goal.offset_bounds-words-first
offset_bounds-words-first c = omega (arith, c.requires.0, c.loop-i-test.true)

pub bounds-words-first : goal.bounds-words-first
bounds-words-first c = omega (arith, c.requires.0, c.loop-i-test.true)

pub overflow_shl-words : goal.overflow_shl-words
overflow_shl-words c = omega (arith, c.requires.1)

pub overflow_add-words-in-loop-i : goal.overflow_add-words-in-loop-i
overflow_add-words-in-loop-i c = omega (arith, c.requires.0, c.loop-i-test.true)

pub offset_bounds-words-first-in-loop-i : goal.offset_bounds-words-first-in-loop-i
offset_bounds-words-first-in-loop-i c = omega (arith, c.requires.0, c.loop-i-test.true)

pub bounds-words-first-in-loop-i : goal.bounds-words-first-in-loop-i
bounds-words-first-in-loop-i c = omega (arith, c.requires.0, c.loop-i-test.true)

pub loop-i-preserved : goal.loop-i-preserved
loop-i-preserved c =
    let start = c.before in
    scatter_bytes-step c.loop-i.invariant c.loop-i-test.true start.requires.0 start.requires.2 start.requires.1

pub returns : goal.returns
returns c = scatter_bytes-end c.loop-i.invariant c.loop-i-test.false
