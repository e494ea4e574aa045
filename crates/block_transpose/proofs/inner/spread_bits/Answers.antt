-- `block_transpose::inner::spread_bits` meets its contract: its rule is computed at all 256 bytes at once.
use Rattle.model.proofs.Prelude.{arith}
use Rattle.block_transpose.proofs.SpreadBitsCases.{sum_fits, spread-bits-is}
use Rattle.block_transpose.proofs.inner.spread_bits.Goals as goal

pub overflow_add-result : goal.overflow_add-result
overflow_add-result c = omega (arith, sum_fits c.args.byte)

pub returns : goal.returns
returns c = spread-bits-is c.args.byte c.requires
