-- `report_differences::inner::first::first_number` meets its contract: the first range begins with the number, or there is none up to T.
use Rattle.model.proofs.Prelude.{rules}
use Rattle.report_differences.proofs.RunCases.{passed_none}
use Rattle.report_differences.proofs.FirstClaimLaws.{number-cases}
use Rattle.report_differences.proofs.inner.first.first_number.Goals as goal

pub next_piece-found-requires : goal.next_piece-found-requires
next_piece-found-requires c = search (passed_none, rules)

pub returns-then-paths-low : goal.returns-then-paths-low
returns-then-paths-low c = search number-cases

pub returns-in-None : goal.returns-in-None
returns-in-None c = search number-cases

pub returns-else-paths-low : goal.returns-else-paths-low
returns-else-paths-low c = search number-cases
