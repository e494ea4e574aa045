-- `c_calls::load_code` meets its contract.
use Rattle.c_calls.proofs.AnswerCases.{load-cases}
use Rattle.c_calls.proofs.load_code.Goals as goal

pub returns-in-Err : goal.returns-in-Err
returns-in-Err c = search load-cases

pub returns-in-Ok : goal.returns-in-Ok
returns-in-Ok c = search load-cases
