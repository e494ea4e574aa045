-- `audit::audit_file` meets its contract: each return is one case of the audit from 33 on.
use Rattle.model.proofs.AnswerLaws.{exit}
use Rattle.audit.proofs.AuditCases.{audit-file-cases}
use Rattle.audit.proofs.audit_file.Goals as goal

pub record_length-each-requires : goal.record_length-each-requires
record_length-each-requires c = search audit-file-cases

pub returns-then-not-whole_length : goal.returns-then-not-whole_length
returns-then-not-whole_length c = search audit-file-cases

pub apply_records-taken-requires : goal.apply_records-taken-requires
apply_records-taken-requires c = search audit-file-cases

pub judge-requires : goal.judge-requires
judge-requires c = search (c.in_ok-taken.was, audit-file-cases)

pub returns-in_err-taken : goal.returns-in_err-taken
returns-in_err-taken c = rw (exit _ _ c.from_residual.ensures.1) (search (c.in_err-taken.was, audit-file-cases))

pub returns : goal.returns
returns c = search (c.in_ok-taken.was, audit-file-cases)
