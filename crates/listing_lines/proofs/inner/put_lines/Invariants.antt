-- `listing_lines::inner::put_lines` meets its contract. The invariant, `PuttingLines`: the lines of the first t answers are put.
use Rattle.model.proofs.Prelude.{◌-◌}
use Rattle.listing_lines.proofs.ListingLineLaws.{PuttingLines}
use Rattle.listing_lines.proofs.inner.put_lines.Given as goal

abbrev pub invariant-loop-t : goal.invariant-loop-t
invariant-loop-t l =
    PuttingLines l.initial.out l.start l.first l.answers l.lines l.out l.at l.place l.t
