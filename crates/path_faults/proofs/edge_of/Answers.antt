-- `path_faults::edge_of` meets its contract: an odd fault number is a rising one.
use Rattle.path_faults.proofs.FaultCases.{fault-cases}
use Rattle.path_faults.proofs.edge_of.Goals as goal

pub returns-then-n-eq1 : goal.returns-then-n-eq1
returns-then-n-eq1 c = search fault-cases

pub returns-else-n-eq1 : goal.returns-else-n-eq1
returns-else-n-eq1 c = search fault-cases
