-- `c_store::totals_code` meets its contract.
use Rattle.c_store.proofs.StoreAnswerCases.{totals-cases}
use Rattle.c_store.proofs.totals_code.Goals as goal

pub returns-in-Err : goal.returns-in-Err
returns-in-Err c = search totals-cases

pub returns-in-Ok : goal.returns-in-Ok
returns-in-Ok c = search totals-cases
