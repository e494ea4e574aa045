-- `exports::genduwal_path_to_number` meets its contract: code and words are those of the answer of the call beneath.
use Rattle.c_answer_words.proofs.CodeLaws.{answered-by}
use Rattle.exports.proofs.genduwal_path_to_number.Goals as goal

pub returns : goal.returns
returns c =
    answered-by c.path_to_number-number.ensures c.number_code.ensures
