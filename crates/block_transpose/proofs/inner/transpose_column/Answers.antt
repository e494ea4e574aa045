-- `block_transpose::inner::transpose_column` meets its contract. The loop's invariant: the records below t stand in the eight words, and nothing above them.
use Rattle.model.proofs.Prelude.{◌∙◌, arith}
use Rattle.block_transpose.proofs.TransposeCases.{transpose_column-start, transpose_column-step, transpose_column-end}
use Rattle.block_transpose.proofs.inner.transpose_column.Goals as goal

pub loop-t-init : goal.loop-t-init
loop-t-init c = transpose_column-start

pub overflow_add-first : goal.overflow_add-first
overflow_add-first c = omega (arith, c.requires, c.loop-t-test.true)

pub overflow_mul-byte : goal.overflow_mul-byte
overflow_mul-byte c = omega (arith, c.requires)

pub gather_8x8-word-requires : goal.gather_8x8-word-requires
gather_8x8-word-requires c =
    let start = c.requires in
    let eights = c.loop-t.invariant.eights in
    (omega (arith, start, eights, c.loop-t-test.true), omega (arith, start))

pub overflow_mul-byte-in-loop-t : goal.overflow_mul-byte-in-loop-t
overflow_mul-byte-in-loop-t c = omega (arith, c.requires)

pub scatter_bytes-requires : goal.scatter_bytes-requires
scatter_bytes-requires c =
    let loop = c.loop-t in
    let start = c.requires in
    (omega (arith, start), omega (arith, start, loop.invariant.eights, c.loop-t-test.true), loop.invariant.same_length_of ∙ start.3)

pub loop-t-preserved : goal.loop-t-preserved
loop-t-preserved c =
    let start = c.requires in
    let loop = c.loop-t in
    transpose_column-step loop.invariant c.gather_8x8-word.ensures c.scatter_bytes.ensures (omega (arith, start, c.loop-t-test.true))

pub returns : goal.returns
returns c = transpose_column-end c.loop-t.invariant c.loop-t-test.false

-- no record is left after these eight
pub returns-2 : goal.returns-2
returns-2 c =
    let start = c.requires in
    let last = transpose_column-step c.loop-t.invariant c.gather_8x8-word.ensures c.scatter_bytes.ensures (omega (arith, start, c.loop-t-test.true)) in
    transpose_column-end last (omega arith)
