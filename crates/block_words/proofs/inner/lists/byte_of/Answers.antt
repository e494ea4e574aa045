-- `block_words::inner::lists::byte_of` meets its contract. The loop's invariant: the pins from k on are packed, pin k in the lowest bit. Two pins want no loop.
use Rattle.model.proofs.Prelude.{arith}
use Rattle.block_words.proofs.PackCases.{two-pin-cases, pack_start, pack_few, digit-few, pack_step, pack_end}
use Rattle.block_words.proofs.inner.lists.byte_of.Goals as goal

pub overflow_mul-result : goal.overflow_mul-result
overflow_mul-result c = search two-pin-cases

pub overflow_add-result : goal.overflow_add-result
overflow_add-result c = search two-pin-cases

pub returns-then-pins-eq2 : goal.returns-then-pins-eq2
returns-then-pins-eq2 c = (search two-pin-cases, search two-pin-cases)

pub loop-k-init : goal.loop-k-init
loop-k-init c = pack_start _ _ _

pub overflow_mul-byte : goal.overflow_mul-byte
overflow_mul-byte c = omega (arith, pack_few _ _ _ c.loop-k.invariant c.requires.0 c.loop-k-test.true)

pub offset_bounds-rows-k : goal.offset_bounds-rows-k
offset_bounds-rows-k c = omega (arith, c.loop-k.invariant.within, c.requires.0)

pub bounds-rows-k : goal.bounds-rows-k
bounds-rows-k c = omega (arith, c.loop-k.invariant.within, c.requires.0, c.loop-k-test.true)

pub overflow_add-byte : goal.overflow_add-byte
overflow_add-byte c =
    omega (
      arith,
      pack_few _ _ _ c.loop-k.invariant c.requires.0 c.loop-k-test.true,
      digit-few _ _ _ c.loop-k.invariant _
          c.bit_of-in-loop-k.ensures,
    )

pub loop-k-preserved : goal.loop-k-preserved
loop-k-preserved c =
    pack_step _ _ _ c.loop-k.invariant c.loop-k-test.true _ c.bit_of-in-loop-k.ensures

pub returns : goal.returns
returns c = pack_end _ _ _ c.loop-k.invariant c.requires.0 c.loop-k-test.false
