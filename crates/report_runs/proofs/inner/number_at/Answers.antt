-- `report_runs::inner::number_at` meets its contract: four fields of two bytes make one of eight.
use Rattle.model.proofs.Prelude.{rules}
use Rattle.report_runs.proofs.EightByteLaws.{eight}
use Rattle.report_runs.proofs.inner.number_at.Goals as goal

pub returns : goal.returns
returns c = search (eight, rules)
