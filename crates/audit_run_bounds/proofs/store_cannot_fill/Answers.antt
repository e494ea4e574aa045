-- `audit_run_bounds::store_cannot_fill` meets its contract: it is the test itself.
use Rattle.model.proofs.Prelude.{rules}
use Rattle.audit_run_bounds.proofs.store_cannot_fill.Goals as goal

pub returns : goal.returns
returns c = search rules
