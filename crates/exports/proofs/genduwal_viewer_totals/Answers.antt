-- `exports::genduwal_viewer_totals` meets its contract: code and words are those of the answer of the call beneath.
use Rattle.c_answer_words.proofs.CodeLaws.{answered-by}
use Rattle.exports.proofs.genduwal_viewer_totals.Goals as goal

pub returns : goal.returns
returns c =
    answered-by c.viewer_totals-totals.ensures c.totals_code.ensures
