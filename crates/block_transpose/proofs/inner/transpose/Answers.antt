-- `block_transpose::inner::transpose` meets its contract. The loop's invariant: the inputs below 8 * byte have their words, the others have 0.
use Rattle.model.proofs.Prelude.{◌<◌, arith}
use Rattle.block_transpose.proofs.TransposeCases.{transpose_start, transpose_step, transpose_end}
use Rattle.block_transpose.proofs.inner.transpose.Goals as goal

pub loop-byte-init : goal.loop-byte-init
loop-byte-init c = transpose_start

pub transpose_column-requires : goal.transpose_column-requires
transpose_column-requires c =
    let start = c.requires in
    (start.0, start.1, omega (arith, start, c.div_ceil-byte-end.ensures, c.loop-byte-test.true), c.loop-byte.invariant.whole)

pub loop-byte-preserved : goal.loop-byte-preserved
loop-byte-preserved c =
    let start = c.requires in
    let few : c.loop-byte.byte < 8 = omega (arith, start, c.div_ceil-byte-end.ensures, c.loop-byte-test.true) in
    transpose_step c.loop-byte.invariant few c.transpose_column.ensures

pub returns : goal.returns
returns c = transpose_end c.loop-byte.invariant (omega (arith, c.div_ceil-byte-end.ensures, c.loop-byte-test.false))
