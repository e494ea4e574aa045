-- `length_ranks::inner::ranks::add_outputs` meets its contract: the rows of the outputs before the one at hand are added.
use Rattle.model.proofs.Prelude.{◌≤◌, ◌-◌, ◌≡◌}
use Rattle.length_rows.specs.RowSums.{added}
use Rattle.length_ranks.proofs.OutputSumCases.{sums_before}
use Rattle.length_ranks.proofs.inner.ranks.add_outputs.Given as goal

abbrev pub invariant-loop-before : goal.invariant-loop-before
invariant-loop-before l = (l.before ≤ l.place) × (l.sums ≡ added l.initial.sums (sums_before l.part l.place l.inputs l.rows l.before))
