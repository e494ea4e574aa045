-- `report_differences::inner::walk::last_only` meets its contract. The invariant: every number passed is in the first runs only, and the runs before the
-- places end with it or before.
use Rattle.model.proofs.Prelude.{ℕ, ◌≤◌, ◌+◌, ◌-◌, ◌^◌, ◌≡◌, true}
use Rattle.report_differences.specs.Differences.{only, Passed}
use Rattle.report_differences.proofs.inner.walk.last_only.Given as goal

abbrev pub invariant-loop-high : goal.invariant-loop-high
invariant-loop-high l =
    (l.low ≤ l.high) × ((k : ℕ) → l.low ≤ k → k ≤ l.high → only l.a l.b k ≡ true) × Passed l.a l.here (l.high + 1) × Passed l.b l.there (l.high + 1)

abbrev pub decreases-loop-high : goal.decreases-loop-high
decreases-loop-high l = 2 ^ 64 - l.high
