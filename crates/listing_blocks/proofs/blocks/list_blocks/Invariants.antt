-- `listing_blocks::blocks::list_blocks` meets its contract. The invariant, `Listing`: the lines in the buffer, then those of the records that are left, give the whole.
use Rattle.model.proofs.Prelude.{◌-◌, length}
use Rattle.listing_blocks.proofs.PieceSteps.{Listing}
use Rattle.listing_blocks.proofs.blocks.list_blocks.Given as goal

abbrev pub invariant-loop-used : goal.invariant-loop-used
invariant-loop-used l =
    Listing l.table l.offsets l.numbers (record { place = l.initial.place; used = l.initial.used; bytes = l.initial.bytes }) l.piece l.initial.store l.initial.work l.initial.out l.rising_lists l.falling_lists l.store l.work l.out l.place l.used l.bytes

abbrev pub decreases-loop-used : goal.decreases-loop-used
decreases-loop-used l =
    length l.piece - l.used
