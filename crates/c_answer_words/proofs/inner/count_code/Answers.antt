-- `c_answer_words::inner::count_code` meets its contract.
use Rattle.c_answer_words.proofs.CodeLaws.{number-cases}
use Rattle.c_answer_words.proofs.inner.count_code.Goals as goal

pub returns-in-Err : goal.returns-in-Err
returns-in-Err c = search number-cases

pub returns-in-Ok : goal.returns-in-Ok
returns-in-Ok c = search number-cases
