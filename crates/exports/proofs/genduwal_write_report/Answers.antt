-- `exports::genduwal_write_report` meets its contract: code and words are those of the answer of the call beneath.
use Rattle.c_answer_words.proofs.CodeLaws.{answered-by}
use Rattle.exports.proofs.genduwal_write_report.Goals as goal

pub returns : goal.returns
returns c =
    record { answered = answered-by c.write_report-written.ensures.answer c.count_code.ensures; report_after = c.write_report-written.ensures.buffer }
