-- `c_answer_words::inner::put_words` meets its contract: numbers written in place of all words are stored from the first word on.
use Rattle.model.proofs.Prelude.{rules}
use Rattle.c_answer_words.proofs.StoredLaws.{stored-whole}
use Rattle.c_answer_words.proofs.inner.put_words.Goals as goal

pub returns-clause-answer_after : goal.returns-clause-answer_after
returns-clause-answer_after g c = search (stored-whole, rules)
