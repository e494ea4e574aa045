-- `report::write_report` meets its contract: each return is one case of the writer.
use Rattle.model.proofs.AnswerLaws.{exit}
use Rattle.report.proofs.WriterCases.{writer-cases}
use Rattle.report.proofs.write_report.Goals as goal

pub returns-then-store-ne-STORE_WORDS : goal.returns-then-store-ne-STORE_WORDS
returns-then-store-ne-STORE_WORDS c = search writer-cases

pub returns-then-report-lt-REPORT_BYTES : goal.returns-then-report-lt-REPORT_BYTES
returns-then-report-lt-REPORT_BYTES c = search writer-cases

pub returns-in_err-legal : goal.returns-in_err-legal
returns-in_err-legal c = rw (exit _ _ c.from_residual.ensures.1) (search (c.in_err-legal.was, writer-cases))

pub check_words-requires : goal.check_words-requires
check_words-requires c = search (c.in_ok-legal.was, writer-cases)

pub returns-in_err-check_words : goal.returns-in_err-check_words
returns-in_err-check_words c = rw (exit _ _ c.from_residual-in_err-check_words.ensures.1) (search (c.in_ok-legal.was, c.in_err-check_words.was, writer-cases))

pub tests_taken-requires : goal.tests_taken-requires
tests_taken-requires c = search (c.in_ok-legal.was, c.in_ok-check_words.was, writer-cases)

pub put_report-length-requires : goal.put_report-length-requires
put_report-length-requires c = search (c.in_ok-legal.was, c.in_ok-check_words.was, writer-cases)

pub returns : goal.returns
returns c = search (c.in_ok-legal.was, c.in_ok-check_words.was, writer-cases)
