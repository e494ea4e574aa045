-- `report_differences::inner::walk::first_only` meets its contract. The invariant: no number passed is in the first runs only, and the runs before the places
-- end before the number.
use Rattle.model.proofs.Prelude.{ℕ, ◌≤◌, ◌<◌, ◌-◌, ◌^◌, ◌≡◌, false}
use Rattle.report_differences.specs.Differences.{only, Passed}
use Rattle.report_differences.proofs.inner.walk.first_only.Given as goal

abbrev pub invariant-loop-next : goal.invariant-loop-next
invariant-loop-next l =
    (l.from ≤ l.number) × ((k : ℕ) → l.from ≤ k → k < l.number → only l.a l.b k ≡ false) × Passed l.a l.here l.number × Passed l.b l.there l.number

abbrev pub decreases-loop-next : goal.decreases-loop-next
decreases-loop-next l = 2 ^ 64 - l.number
