-- `listing_piece::inner::list_read` meets its contract. The invariant, `Reading`: what was written, what waits in the buffer, and the lines of the records that
-- are left give the whole.
use Rattle.model.proofs.Prelude.{rules}
use Rattle.model.proofs.Prelude.{◌-◌}
use Rattle.listing_piece.proofs.ReadSteps.{reading_start, reading_ready, reading_end, more-inside, more_room, reading_next, reading_less}
use Rattle.listing_piece.proofs.inner.list_read.Goals as goal

pub loop-at-init : goal.loop-at-init
loop-at-init c = reading_start c.requires

pub list_piece-more-requires : goal.list_piece-more-requires
list_piece-more-requires c = reading_ready c.loop-at.invariant

pub returns : goal.returns
returns c = reading_end c.loop-at.invariant c.loop-at-test.false

pub loop-at-preserved : goal.loop-at-preserved
loop-at-preserved c = search (reading_start, reading_ready, reading_end, more-inside, more_room, reading_next, reading_less, rules)
