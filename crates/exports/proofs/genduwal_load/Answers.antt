-- `exports::genduwal_load` meets its contract: code and words are those of the answer of the call beneath.
use Rattle.c_answer_words.proofs.CodeLaws.{answered-by}
use Rattle.exports.proofs.genduwal_load.Goals as goal

pub returns : goal.returns
returns c =
    record { answered = answered-by c.write_load-written.ensures.answer c.load_code.ensures; records_after = c.write_load-written.ensures.buffer }
