-- `c_store::lengths_code` meets its contract.
use Rattle.c_store.proofs.StoreAnswerCases.{lengths-cases}
use Rattle.c_store.proofs.lengths_code.Goals as goal

pub returns-in-Err : goal.returns-in-Err
returns-in-Err c = search lengths-cases

pub returns-in-Ok : goal.returns-in-Ok
returns-in-Ok c = search lengths-cases
