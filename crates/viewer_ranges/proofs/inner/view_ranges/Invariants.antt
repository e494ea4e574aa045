-- `viewer_ranges::inner::view_ranges` meets its contract: the ranges added so far, with those of the places that are left, make the runs he sees.
use Rattle.model.proofs.Prelude.{◌-◌, length}
use Rattle.viewer_ranges.proofs.ViewRangeCases.{Viewing}
use Rattle.viewer_ranges.proofs.inner.view_ranges.Given as goal

abbrev pub invariant-loop-i : goal.invariant-loop-i
invariant-loop-i l = Viewing l.netlist l.counts l.shape l.places l.part l.initial.words l.words l.i l.count
