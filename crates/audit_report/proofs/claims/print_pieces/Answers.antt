-- `audit_report::claims::print_pieces` is safe and ends: each range ends at a higher number. The invariant: the runs before the places end
-- before the number.
use Rattle.model.proofs.Prelude.{◌-◌}
use Rattle.audit_report.proofs.ClaimCases.{walk-cases}
use Rattle.audit_report.proofs.claims.print_pieces.Goals as goal

pub loop-low-init : goal.loop-low-init
loop-low-init c = search walk-cases

pub next_piece-found-requires : goal.next_piece-found-requires
next_piece-found-requires c = c.loop-low.invariant

pub loop-low-smaller : goal.loop-low-smaller
loop-low-smaller c = search walk-cases

pub loop-low-preserved : goal.loop-low-preserved
loop-low-preserved c = search walk-cases
