-- `block_counting::inner::totals_after` meets its contract, case by case.
use Rattle.model.proofs.Prelude.{ap, sym}
use Rattle.block_counting.specs.Counts.{totals_after_of}
use Rattle.block_counting.proofs.inner.totals_after.Goals as goal

pub returns-in-Ok : goal.returns-in-Ok
returns-in-Ok c = let start = c.args in sym (ap (totals_after_of start.before) c.in-Ok.is)
