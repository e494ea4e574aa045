-- `exports::genduwal_viewer_holds` meets its contract: code and words are those of the answer of the call beneath.
use Rattle.c_answer_words.proofs.CodeLaws.{answered-by}
use Rattle.exports.proofs.genduwal_viewer_holds.Goals as goal

pub returns : goal.returns
returns c = answered-by c.viewer_holds-held.ensures c.held_code.ensures
