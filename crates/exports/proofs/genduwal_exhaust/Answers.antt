-- `exports::genduwal_exhaust` meets its contract: code and words are those of the answer of the call beneath.
use Rattle.c_answer_words.proofs.CodeLaws.{answered-by}
use Rattle.exports.proofs.genduwal_exhaust.Goals as goal

pub returns : goal.returns
returns c =
    record { answered = answered-by c.exhaust-shown.ensures.answer c.totals_code.ensures; store_after = c.exhaust-shown.ensures.store; pairs_work = c.exhaust-shown.ensures.work }
