-- `report::inner::compare` meets its contract: each return is one case of the place Report.
use Rattle.report.proofs.ReportCases.{compare-cases}
use Rattle.report.proofs.inner.compare.Goals as goal

pub returns-then-not-begins_with : goal.returns-then-not-begins_with
returns-then-not-begins_with c = search compare-cases

pub u16_at-requires : goal.u16_at-requires
u16_at-requires c = search compare-cases

pub u16_at-requires-2 : goal.u16_at-requires-2
u16_at-requires-2 c = search compare-cases

pub returns-then-report-runs : goal.returns-then-report-runs
returns-then-report-runs c = search compare-cases

pub returns-then-not-same_report : goal.returns-then-not-same_report
returns-then-not-same_report c = search compare-cases

pub returns : goal.returns
returns c = search compare-cases
