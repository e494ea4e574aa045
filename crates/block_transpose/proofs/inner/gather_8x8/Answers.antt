-- `block_transpose::inner::gather_8x8` meets its contract. The loop's invariant: the records from t on stand in the lowest bits of each byte.
use Rattle.model.proofs.Prelude.{arith, rules}
use Rattle.block_transpose.proofs.Gather8x8Cases.{gather_start, gather_step, gather_end, byte_fits}
use Rattle.block_transpose.proofs.inner.gather_8x8.Goals as goal

pub loop-t-init : goal.loop-t-init
loop-t-init c = gather_start

pub overflow_add-first : goal.overflow_add-first
overflow_add-first c = omega (arith, c.requires, c.loop-t.invariant.within)

pub offset_bounds-vectors-first : goal.offset_bounds-vectors-first
offset_bounds-vectors-first c = omega (arith, c.requires, c.loop-t.invariant.within)

pub bounds-vectors-first : goal.bounds-vectors-first
bounds-vectors-first c = omega (arith, c.requires, c.loop-t.invariant.within, c.loop-t-test.true)

pub overflow_shr-vectors : goal.overflow_shr-vectors
overflow_shr-vectors c = omega (arith, c.requires)

pub spread_bits-requires : goal.spread_bits-requires
spread_bits-requires c = search (byte_fits, rules)

pub loop-t-preserved : goal.loop-t-preserved
loop-t-preserved c = gather_step c.loop-t.invariant c.loop-t-test.true c.spread_bits.ensures

pub returns : goal.returns
returns c = gather_end c.loop-t.invariant c.loop-t-test.false
