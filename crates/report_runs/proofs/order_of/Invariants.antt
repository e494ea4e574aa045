-- `report_runs::order_of` meets its contract. The invariant: the runs before the place ascend, and the last of them ends with `last`.
use Rattle.model.proofs.Prelude.{◌≤◌, ◌-◌, ◌/◌, ◌≡◌, length, take}
use Rattle.report_runs.specs.ReportRuns.{runs_of_bytes, Ascends, least_at_of}
use Rattle.report_runs.proofs.OrderCases.{least_after}
use Rattle.report_runs.proofs.order_of.Given as goal

abbrev pub invariant-loop-at : goal.invariant-loop-at
invariant-loop-at l =
    (l.at ≤ length l.runs / 16)
    × Ascends 0 (take l.at (runs_of_bytes l.runs))
    × (least_after 0 (take l.at (runs_of_bytes l.runs)) ≡ least_at_of l.at l.last)
