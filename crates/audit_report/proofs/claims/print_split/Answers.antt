-- `audit_report::claims::print_split` is safe and ends: each line ends at a higher number. The invariant: the runs before the places end before
-- the number.
use Rattle.model.proofs.Prelude.{◌-◌}
use Rattle.audit_report.proofs.ClaimCases.{walk-cases}
use Rattle.audit_report.proofs.claims.print_split.Goals as goal

pub loop-low-init : goal.loop-low-init
loop-low-init c = search walk-cases

pub next_piece-found-requires : goal.next_piece-found-requires
next_piece-found-requires c = c.loop-low.invariant

pub claim_in-claim-requires : goal.claim_in-claim-requires
claim_in-claim-requires c = search walk-cases

pub loop-low-smaller-then-last-high : goal.loop-low-smaller-then-last-high
loop-low-smaller-then-last-high c = search walk-cases

pub loop-low-preserved-then-last-high : goal.loop-low-preserved-then-last-high
loop-low-preserved-then-last-high c = search walk-cases

pub loop-low-smaller : goal.loop-low-smaller
loop-low-smaller c = search walk-cases

pub loop-low-preserved : goal.loop-low-preserved
loop-low-preserved c = search walk-cases
