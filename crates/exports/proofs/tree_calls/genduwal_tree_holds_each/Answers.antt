-- `exports::tree_calls::genduwal_tree_holds_each` meets its contract: code and words are those of the answer of the call beneath.
use Rattle.c_answer_words.proofs.CodeLaws.{answered-by}
use Rattle.exports.proofs.tree_calls.genduwal_tree_holds_each.Goals as goal

pub returns : goal.returns
returns c =
    record { answered = answered-by c.tree_holds_each-asked.ensures.answer c.count_code.ensures; answers_after = c.tree_holds_each-asked.ensures.words }
