-- `path_step::inner::outputs::pick_output` meets its contract: of the number, the rest is left after the outputs that were passed.
use Rattle.model.proofs.Prelude.{◌<◌, ◌-◌}
use Rattle.path_step.specs.Picks.{output_counts_in}
use Rattle.path_step.proofs.SplitLaws.{Passed}
use Rattle.path_step.proofs.inner.outputs.pick_output.Given as goal

abbrev pub invariant-loop-place : goal.invariant-loop-place
invariant-loop-place l = (l.place < l.outputs) × Passed (output_counts_in l.part l.outputs l.inputs l.counts) l.number l.place l.rest

abbrev pub decreases-loop-place : goal.decreases-loop-place
decreases-loop-place l = l.outputs - l.place
