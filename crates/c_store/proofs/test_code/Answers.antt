-- `c_store::test_code` meets its contract.
use Rattle.c_store.proofs.StoreAnswerCases.{test-cases}
use Rattle.c_store.proofs.test_code.Goals as goal

pub returns-in-Err : goal.returns-in-Err
returns-in-Err c = search test-cases

pub returns-in-Ok : goal.returns-in-Ok
returns-in-Ok c = search test-cases
