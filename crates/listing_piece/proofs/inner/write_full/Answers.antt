-- `listing_piece::inner::write_full` meets its contract: an emptied buffer has room for the lines of a block, and so has one that is not written.
use Rattle.model.proofs.Prelude.{refl, inl, inr, arith}
use Rattle.testfile_reading.proofs.ReadPieceLaws.{part_length}
use Rattle.listing_piece.proofs.inner.write_full.Goals as goal

pub slice_bounds-write_all-end : goal.slice_bounds-write_all-end
slice_bounds-write_all-end c =
    part_length c.args.listed.bytes c.args.out.now c.requires.0

pub returns-then-out-bytes-lt-BLOCK_BYTES : goal.returns-then-out-bytes-lt-BLOCK_BYTES
returns-then-out-bytes-lt-BLOCK_BYTES c = record { is = inr refl; room = omega (arith, c.requires.1) }

pub returns : goal.returns
returns c = record { is = inl refl; room = omega (arith, c.if-out-bytes-lt-BLOCK_BYTES.false, c.requires.0) }
