-- `listing_piece::inner::list_read` meets its contract. The invariant, `Reading`: what was written, what waits in the buffer, and the lines of the records that
-- are left give the whole.
use Rattle.model.proofs.Prelude.{◌-◌, length}
use Rattle.listing_piece.proofs.ReadSteps.{Reading}
use Rattle.listing_piece.proofs.inner.list_read.Given as goal

abbrev pub invariant-loop-at : goal.invariant-loop-at
invariant-loop-at l =
    Reading l.initial.at.place l.initial.at.bytes l.netlist l.loaded l.class l.piece l.initial.store l.initial.work l.initial.out l.store l.work l.out l.at

abbrev pub decreases-loop-at : goal.decreases-loop-at
decreases-loop-at l = length l.piece - l.at.used
