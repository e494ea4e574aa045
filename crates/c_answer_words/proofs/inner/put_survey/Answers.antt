-- `c_answer_words::inner::put_survey` meets its contract: the counts stand behind the first four words.
use Rattle.model.proofs.Prelude.{rules}
use Rattle.c_answer_words.proofs.StoredLaws.{counts-stored}
use Rattle.c_answer_words.proofs.inner.put_survey.Goals as goal

pub returns : goal.returns
returns c = search (counts-stored, rules)
