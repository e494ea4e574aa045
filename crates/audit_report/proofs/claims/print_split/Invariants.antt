-- `audit_report::claims::print_split` is safe and ends: each line ends at a higher number. The invariant: the runs before the places end before
-- the number.
use Rattle.model.proofs.Prelude.{◌-◌, ◌^◌}
use Rattle.report_differences.specs.Differences.{Passed}
use Rattle.audit_report.proofs.claims.print_split.Given as goal

abbrev pub invariant-loop-low : goal.invariant-loop-low
invariant-loop-low l = Passed l.a l.i l.from × Passed l.b l.j l.from

abbrev pub decreases-loop-low : goal.decreases-loop-low
decreases-loop-low l = 2 ^ 64 - l.from
