-- `report_verdict::is_of_record` meets its contract: each test says whether the number is that of one of the five cases.
use Rattle.report_verdict.proofs.OfRecordCases.{record-cases}
use Rattle.report_verdict.proofs.is_of_record.Goals as goal

pub returns-then-number-refusal_number : goal.returns-then-number-refusal_number
returns-then-number-refusal_number c = search record-cases

pub returns-then-number-refusal_number-2 : goal.returns-then-number-refusal_number-2
returns-then-number-refusal_number-2 c = search record-cases

pub returns-then-number-refusal_number-3 : goal.returns-then-number-refusal_number-3
returns-then-number-refusal_number-3 c = search record-cases

pub returns-then-number-refusal_number-4 : goal.returns-then-number-refusal_number-4
returns-then-number-refusal_number-4 c = search record-cases

pub returns : goal.returns
returns c = search record-cases
