-- `c_calls::fault_of_code` meets its contract: each return is a case of the edge.
use Rattle.c_calls.proofs.FaultNumberCases.{fault-of-cases}
use Rattle.c_calls.proofs.fault_of_code.Goals as goal

pub returns-then-edge-eq0 : goal.returns-then-edge-eq0
returns-then-edge-eq0 c = search fault-of-cases

pub returns-then-edge-eq1 : goal.returns-then-edge-eq1
returns-then-edge-eq1 c = search fault-of-cases

pub returns : goal.returns
returns c = search fault-of-cases
