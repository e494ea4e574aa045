-- `path_faults::path_of` meets its contract: half the fault number, rounded up.
use Rattle.model.proofs.Prelude.{rules}
use Rattle.path_faults.proofs.path_of.Goals as goal

pub returns : goal.returns
returns c = search rules
