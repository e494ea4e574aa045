-- `c_calls::bench_code` meets its contract.
use Rattle.c_calls.proofs.AnswerCases.{bench-cases}
use Rattle.c_calls.proofs.bench_code.Goals as goal

pub returns-in-Err : goal.returns-in-Err
returns-in-Err c = search bench-cases

pub returns-in-Ok : goal.returns-in-Ok
returns-in-Ok c = search bench-cases
