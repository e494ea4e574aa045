-- `exports::tree_calls::genduwal_tree_holds` meets its contract: code and words are those of the answer of the call beneath.
use Rattle.c_answer_words.proofs.CodeLaws.{answered-by}
use Rattle.exports.proofs.tree_calls.genduwal_tree_holds.Goals as goal

pub returns : goal.returns
returns c = answered-by c.tree_holds-held.ensures c.holds_code.ensures
