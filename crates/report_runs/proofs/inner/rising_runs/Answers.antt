-- `report_runs::inner::rising_runs` meets its contract: the bytes after the head hold the rising runs.
use Rattle.model.proofs.Prelude.{rules}
use Rattle.report_runs.proofs.ClaimLaws.{rising_part}
use Rattle.report_runs.proofs.inner.rising_runs.Goals as goal

pub returns : goal.returns
returns c = search (rising_part, rules)
