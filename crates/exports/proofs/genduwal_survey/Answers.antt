-- `exports::genduwal_survey` meets its contract: code and words are those of the answer of the call beneath.
use Rattle.c_answer_words.proofs.CodeLaws.{answered-by}
use Rattle.exports.proofs.genduwal_survey.Goals as goal

pub returns : goal.returns
returns c =
    answered-by c.survey-surveyed.ensures c.survey_code.ensures
