-- `exports::tree_calls::genduwal_tree_total` meets its contract: code and words are those of the answer of the call beneath.
use Rattle.c_answer_words.proofs.CodeLaws.{answered-by}
use Rattle.exports.proofs.tree_calls.genduwal_tree_total.Goals as goal

pub returns : goal.returns
returns c = answered-by c.tree_total-total.ensures c.total_code.ensures
