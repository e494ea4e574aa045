-- `c_answer_words::inner::code_of` meets its contract.
use Rattle.c_answer_words.proofs.CodeLaws.{code-cases}
use Rattle.c_answer_words.proofs.inner.code_of.Goals as goal

pub returns-in-Err : goal.returns-in-Err
returns-in-Err c = search code-cases

pub returns-in-Ok : goal.returns-in-Ok
returns-in-Ok c = search code-cases
