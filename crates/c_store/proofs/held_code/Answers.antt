-- `c_store::held_code` meets its contract.
use Rattle.c_store.proofs.StoreAnswerCases.{held-cases}
use Rattle.c_store.proofs.held_code.Goals as goal

pub returns-in-Err : goal.returns-in-Err
returns-in-Err c = search held-cases

pub returns-in-Ok : goal.returns-in-Ok
returns-in-Ok c = search held-cases
