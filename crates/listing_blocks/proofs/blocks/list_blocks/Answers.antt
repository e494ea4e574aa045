-- `listing_blocks::blocks::list_blocks` meets its contract. The invariant, `Listing`: the lines in the buffer, then those of the records that are left, give the whole.
use Rattle.model.proofs.Prelude.{◌-◌, refl, arith}
use Rattle.listing_blocks.proofs.PieceSteps.{listing_start, listing_ready, listing_end, listing_full, block_within, block_room, block-places, block-less, listing_next}
use Rattle.listing_blocks.proofs.blocks.list_blocks.Goals as goal

pub loop-used-init : goal.loop-used-init
loop-used-init c = listing_start c.requires refl refl

pub returns-then-out-bytes-lt-BLOCK_BYTES : goal.returns-then-out-bytes-lt-BLOCK_BYTES
returns-then-out-bytes-lt-BLOCK_BYTES c = listing_full c.loop-used.invariant c.if-out-bytes-lt-BLOCK_BYTES.true

pub count_part-block-requires : goal.count_part-block-requires
count_part-block-requires c =
    listing_ready c.loop-used.invariant

pub put_lines-bytes-requires : goal.put_lines-bytes-requires
put_lines-bytes-requires c =
    (c.count_part-block.ensures.few, block_room c.loop-used.invariant c.loop-used-test.true c.count_part-block.ensures c.if-out-bytes-lt-BLOCK_BYTES.false, block-places c.loop-used.invariant c.loop-used-test.true c.count_part-block.ensures)

pub overflow_add-place : goal.overflow_add-place
overflow_add-place c =
    omega (arith, block-places c.loop-used.invariant c.loop-used-test.true c.count_part-block.ensures)

pub overflow_add-used : goal.overflow_add-used
overflow_add-used c =
    omega (arith, block_within c.loop-used.invariant c.loop-used-test.true c.count_part-block.ensures, c.loop-used.invariant.ready.begun.places)

pub loop-used-smaller : goal.loop-used-smaller
loop-used-smaller c =
    block-less c.loop-used.invariant c.loop-used-test.true c.count_part-block.ensures

pub loop-used-preserved : goal.loop-used-preserved
loop-used-preserved c =
    listing_next c.loop-used.invariant c.loop-used-test.true c.count_part-block.ensures c.put_lines-bytes.ensures

pub returns : goal.returns
returns c = listing_end c.loop-used.invariant c.loop-used-test.false
