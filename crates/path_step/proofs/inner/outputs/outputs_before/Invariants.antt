-- `path_step::inner::outputs::outputs_before` meets its contract: the sum so far is that of the counts of the outputs before the one at hand.
use Rattle.model.proofs.Prelude.{◌≤◌, ◌≡◌}
use Rattle.model.specs.Path.{counts_before}
use Rattle.path_step.specs.Picks.{output_counts_in}
use Rattle.path_step.proofs.inner.outputs.outputs_before.Given as goal

abbrev pub invariant-loop-before : goal.invariant-loop-before
invariant-loop-before l = (l.before ≤ l.place) × (l.total ≡ counts_before l.before (output_counts_in l.part l.place l.inputs l.counts))
