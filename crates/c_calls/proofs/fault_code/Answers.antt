-- `c_calls::fault_code` meets its contract.
use Rattle.c_calls.proofs.AnswerCases.{fault-cases}
use Rattle.c_calls.proofs.fault_code.Goals as goal

pub returns-in-Err : goal.returns-in-Err
returns-in-Err c = search fault-cases

pub returns-in-Ok : goal.returns-in-Ok
returns-in-Ok c = search fault-cases
