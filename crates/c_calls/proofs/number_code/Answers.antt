-- `c_calls::number_code` meets its contract.
use Rattle.c_calls.proofs.AnswerCases.{number-cases}
use Rattle.c_calls.proofs.number_code.Goals as goal

pub returns-in-Err : goal.returns-in-Err
returns-in-Err c = search number-cases

pub returns-in-Ok : goal.returns-in-Ok
returns-in-Ok c = search number-cases
