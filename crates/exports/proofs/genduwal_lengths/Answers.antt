-- `exports::genduwal_lengths` meets its contract: code and words are those of the answer of the call beneath.
use Rattle.c_answer_words.proofs.CodeLaws.{answered-by}
use Rattle.exports.proofs.genduwal_lengths.Goals as goal

pub returns : goal.returns
returns c = answered-by c.coverage_by_length-lengths.ensures c.lengths_code.ensures
