-- `detection_fault::detects_on` meets its contract: each return is a case of the class, the record and the number.
use Rattle.model.proofs.AnswerLaws.{exit}
use Rattle.detection_fault.proofs.DetectionCases.{on-cases}
use Rattle.detection_fault.proofs.detects_on.Goals as goal

pub returns-then-not-known_class : goal.returns-then-not-known_class
returns-then-not-known_class c = search on-cases

pub check_record-requires : goal.check_record-requires
check_record-requires c = search on-cases

pub returns-then-number-lt1 : goal.returns-then-number-lt1
returns-then-number-lt1 c = search (c.in_ok-check_record.was, on-cases)

pub returns-then-total-number : goal.returns-then-total-number
returns-then-total-number c = search (c.in_ok-check_record.was, on-cases)

pub detects_path-requires : goal.detects_path-requires
detects_path-requires c = search (c.in_ok-check_record.was, on-cases)

pub returns-in_err-check_record : goal.returns-in_err-check_record
returns-in_err-check_record c = rw (exit _ _ c.from_residual.ensures.1) (search (c.in_err-check_record.was, on-cases))

pub returns-then-detects_path : goal.returns-then-detects_path
returns-then-detects_path c = search (c.in_ok-check_record.was, on-cases)

pub returns-else-detects_path : goal.returns-else-detects_path
returns-else-detects_path c = search (c.in_ok-check_record.was, on-cases)
