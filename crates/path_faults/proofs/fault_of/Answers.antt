-- `path_faults::fault_of` meets its contract: each return is a case of the number and the edge.
use Rattle.model.proofs.Prelude.{rules}
use Rattle.path_faults.proofs.FaultCases.{fault-cases}
use Rattle.path_faults.proofs.fault_of.Goals as goal

pub returns-then-i-lt1 : goal.returns-then-i-lt1
returns-then-i-lt1 c = search fault-cases

pub returns-then-i-gt-MAX_COUNT : goal.returns-then-i-gt-MAX_COUNT
returns-then-i-gt-MAX_COUNT c = search fault-cases

pub overflow_sub-result : goal.overflow_sub-result
overflow_sub-result c = search rules

pub returns-in-Rising : goal.returns-in-Rising
returns-in-Rising c = search fault-cases

pub returns-in-Falling : goal.returns-in-Falling
returns-in-Falling c = search fault-cases
