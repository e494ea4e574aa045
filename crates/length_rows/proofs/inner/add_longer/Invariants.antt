-- `length_rows::inner::add_longer` meets its contract: the numbers before the place at hand are added to, the others are as found.
use Rattle.model.proofs.Prelude.{◌≤◌}
use Rattle.length_rows.proofs.RowCases.{Summed, moved}
use Rattle.length_rows.proofs.inner.add_longer.Given as goal

abbrev pub invariant-loop-at : goal.invariant-loop-at
invariant-loop-at l = (l.by ≤ l.at) × Summed l.initial.sums l.sums (moved l.initial.sums l.row l.by) l.at
