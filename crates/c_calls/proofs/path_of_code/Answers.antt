-- `c_calls::path_of_code` meets its contract: fault number 0 is refused, any other has a path and an edge.
use Rattle.c_calls.proofs.FaultNumberCases.{path-of-cases}
use Rattle.c_calls.proofs.path_of_code.Goals as goal

pub returns-then-number-lt1 : goal.returns-then-number-lt1
returns-then-number-lt1 c = search path-of-cases

pub returns : goal.returns
returns c = search path-of-cases
