-- `report_runs::inner::falling_runs` meets its contract: the bytes after the rising runs hold the falling ones.
use Rattle.model.proofs.Prelude.{rules}
use Rattle.report_runs.proofs.ClaimLaws.{falling-part, falling-cut}
use Rattle.report_runs.proofs.inner.falling_runs.Goals as goal

pub returns-then-report-at : goal.returns-then-report-at
returns-then-report-at c = search (falling-cut, rules)

pub returns : goal.returns
returns c = search (falling-part, rules)
