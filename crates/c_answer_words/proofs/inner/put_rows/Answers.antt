-- `c_answer_words::inner::put_rows` meets its contract: the second row stands behind the first.
use Rattle.model.proofs.Prelude.{rules}
use Rattle.c_answer_words.proofs.StoredLaws.{row-long, rows-stored}
use Rattle.c_answer_words.proofs.inner.put_rows.Goals as goal

pub returns-clause-answer_after : goal.returns-clause-answer_after
returns-clause-answer_after c = search (row-long, rows-stored, rules)
