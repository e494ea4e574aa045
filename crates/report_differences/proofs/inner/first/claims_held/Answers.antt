-- `report_differences::inner::first::claims_held` meets its contract: both edges are compared.
use Rattle.model.proofs.Prelude.{rules}
use Rattle.report_differences.proofs.FirstClaimLaws.{rising-not, falling-tells}
use Rattle.report_differences.proofs.inner.first.claims_held.Goals as goal

pub returns : goal.returns
returns c = search (rising-not, falling-tells, rules)

pub returns-then-not-all_held : goal.returns-then-not-all_held
returns-then-not-all_held c = search (rising-not, falling-tells, rules)
