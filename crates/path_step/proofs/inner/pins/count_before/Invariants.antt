-- `path_step::inner::pins::count_before` meets its contract: the sum so far is that of the counts before the pin at hand.
use Rattle.model.proofs.Prelude.{◌≤◌, ◌≡◌}
use Rattle.model.specs.Path.{counts_before}
use Rattle.path_step.specs.Picks.{pin_counts_in}
use Rattle.path_step.proofs.inner.pins.count_before.Given as goal

abbrev pub invariant-loop-before : goal.invariant-loop-before
invariant-loop-before l = (l.before ≤ l.pin) × (l.sum ≡ counts_before l.before (pin_counts_in l.part l.counts))
