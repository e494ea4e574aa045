-- `c_tree::holds_code` meets its contract.
use Rattle.c_tree.proofs.TreeAnswerCases.{holds-cases}
use Rattle.c_tree.proofs.holds_code.Goals as goal

pub returns-in-Err : goal.returns-in-Err
returns-in-Err c = search holds-cases

pub returns-in-Ok : goal.returns-in-Ok
returns-in-Ok c = search holds-cases
