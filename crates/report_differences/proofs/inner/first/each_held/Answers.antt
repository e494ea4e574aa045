-- `report_differences::inner::first::each_held` meets its contract: every number is held where there is no range of others.
use Rattle.model.proofs.Prelude.{rules}
use Rattle.report_differences.proofs.RunCases.{passed_none}
use Rattle.report_differences.proofs.FirstClaimLaws.{held-cases}
use Rattle.report_differences.proofs.inner.first.each_held.Goals as goal

pub next_piece-found-requires : goal.next_piece-found-requires
next_piece-found-requires c = search (passed_none, rules)

pub returns-in-None : goal.returns-in-None
returns-in-None c = search held-cases

pub returns-in-Some : goal.returns-in-Some
returns-in-Some c = search held-cases
