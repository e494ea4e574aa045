-- `exports::genduwal_holds` meets its contract: code and words are those of the answer of the call beneath.
use Rattle.c_answer_words.proofs.CodeLaws.{answered-by}
use Rattle.exports.proofs.genduwal_holds.Goals as goal

pub returns : goal.returns
returns c =
    answered-by c.fault_in_store-held.ensures c.held_code.ensures
