-- `report::inner::same_report` meets its contract: the first part that differs decides.
use Rattle.model.proofs.Prelude.{arith}
use Rattle.model.specs.Path.{rising, falling}
use Rattle.report.proofs.ReportPartLaws.{edge_few}
use Rattle.report.proofs.ReportCases.{report-cases}
use Rattle.report.proofs.inner.same_report.Goals as goal

pub overflow_add-at-2 : goal.overflow_add-at-2
overflow_add-at-2 c =
    let sound = c.requires in
    omega (arith, edge_few sound rising c.edge_runs-rising.ensures, edge_few sound falling c.edge_runs-falling.ensures)

pub returns-then-report-at : goal.returns-then-report-at
returns-then-report-at c = search report-cases

pub returns-then-not-same_head : goal.returns-then-not-same_head
returns-then-not-same_head c = search report-cases

pub returns-then-not-same_words : goal.returns-then-not-same_words
returns-then-not-same_words c = search report-cases

pub returns : goal.returns
returns c = search report-cases
