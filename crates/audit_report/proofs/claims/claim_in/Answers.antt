-- `audit_report::claims::claim_in` meets its contract: the first range of numbers in the runs of the report only begins after `high`, within
-- the numbers, or at `low`.
use Rattle.audit_report.proofs.ClaimCases.{claim-cases}
use Rattle.audit_report.proofs.claims.claim_in.Goals as goal

pub returns-then-high-first : goal.returns-then-high-first
returns-then-high-first c = search claim-cases

pub returns-then-low-first : goal.returns-then-low-first
returns-then-low-first c = search claim-cases

pub returns-then-high-last : goal.returns-then-high-last
returns-then-high-last c = search claim-cases

pub returns-in-None : goal.returns-in-None
returns-in-None c = search claim-cases

pub returns-else-high-last : goal.returns-else-high-last
returns-else-high-last c = search claim-cases
