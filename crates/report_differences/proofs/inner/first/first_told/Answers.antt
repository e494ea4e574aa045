-- `report_differences::inner::first::first_told` meets its contract, case by case.
use Rattle.report_differences.proofs.FirstClaimLaws.{told-cases}
use Rattle.report_differences.proofs.inner.first.first_told.Goals as goal

pub returns-then-plain-lt-HEAD_BYTES : goal.returns-then-plain-lt-HEAD_BYTES
returns-then-plain-lt-HEAD_BYTES c = search told-cases

pub returns-then-claims_held : goal.returns-then-claims_held
returns-then-claims_held c = search told-cases

pub returns-then-claims_held-2 : goal.returns-then-claims_held-2
returns-then-claims_held-2 c = search told-cases

pub returns : goal.returns
returns c = search told-cases
