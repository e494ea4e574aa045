-- `run_union::inner::fit_after` meets its contract: room for all of them, and a first low over the last high and one more.
use Rattle.model.proofs.Prelude.{rules}
use Rattle.run_union.proofs.ShiftedCases.{fits-no, fits-yes}
use Rattle.run_union.proofs.inner.fit_after.Goals as goal

pub returns-then-capacity-count : goal.returns-then-capacity-count
returns-then-capacity-count c = search (fits-no, rules)

pub returns : goal.returns
returns c = search (fits-yes, rules)
