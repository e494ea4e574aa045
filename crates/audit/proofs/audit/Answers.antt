-- `audit::audit` meets its contract: each return is one case of the audit.
use Rattle.model.proofs.AnswerLaws.{exit}
use Rattle.audit.proofs.AuditCases.{audit-cases}
use Rattle.audit.proofs.audit.Goals as goal

pub returns-then-store-ne-STORE_WORDS : goal.returns-then-store-ne-STORE_WORDS
returns-then-store-ne-STORE_WORDS c = search audit-cases

pub returns-then-work-lt-WORK_WORDS : goal.returns-then-work-lt-WORK_WORDS
returns-then-work-lt-WORK_WORDS c = search audit-cases

pub returns-then-not-known : goal.returns-then-not-known
returns-then-not-known c = search (c.in_ok-loaded.was, audit-cases)

pub audit_file-requires : goal.audit_file-requires
audit_file-requires c = search (c.in_ok-loaded.was, audit-cases)

pub returns-in_err-loaded : goal.returns-in_err-loaded
returns-in_err-loaded c = rw (exit _ _ c.from_residual.ensures.1) (search (c.in_err-loaded.was, audit-cases))

pub returns : goal.returns
returns c = search (c.in_ok-loaded.was, audit-cases)
