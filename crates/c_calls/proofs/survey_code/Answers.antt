-- `c_calls::survey_code` meets its contract.
use Rattle.c_calls.proofs.AnswerCases.{survey-cases}
use Rattle.c_calls.proofs.survey_code.Goals as goal

pub returns-in-Err : goal.returns-in-Err
returns-in-Err c = search survey-cases

pub returns-in-Ok : goal.returns-in-Ok
returns-in-Ok c = search survey-cases
