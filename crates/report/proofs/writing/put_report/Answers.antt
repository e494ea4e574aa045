-- `report::writing::put_report` meets its contract: the head, then the words of both edges' runs.
use Rattle.model.proofs.Prelude.{rules}
use Rattle.report.proofs.WriterCases.{report-put, put-report-cases}
use Rattle.report.proofs.writing.put_report.Goals as goal

pub put_words-requires : goal.put_words-requires
put_words-requires c = search put-report-cases

pub put_words-requires-2 : goal.put_words-requires-2
put_words-requires-2 c = search put-report-cases

pub overflow_add-result : goal.overflow_add-result
overflow_add-result c = search put-report-cases

pub returns : goal.returns
returns c = search (report-put, put-report-cases, rules)
