-- `length_rows::inner::row_sum` meets its contract: the sum so far is that of the numbers before the place at hand.
use Rattle.model.proofs.Prelude.{◌≤◌, ◌≡◌}
use Rattle.model.specs.Path.{counts_before}
use Rattle.length_rows.proofs.inner.row_sum.Given as goal

abbrev pub invariant-loop-number : goal.invariant-loop-number
invariant-loop-number l = (l.number-index ≤ 64) × (l.sum ≡ counts_before l.number-index l.row)
