-- `audit_pieces::audit_end` meets its contract: each return is one case of the end.
use Rattle.audit_pieces.proofs.EndCases.{call-end-cases}
use Rattle.audit_pieces.proofs.audit_end.Goals as goal

pub returns-then-store-ne-STORE_WORDS : goal.returns-then-store-ne-STORE_WORDS
returns-then-store-ne-STORE_WORDS c = search call-end-cases

pub returns-in-Ok : goal.returns-in-Ok
returns-in-Ok c = search call-end-cases

pub returns-in-Err : goal.returns-in-Err
returns-in-Err c = search call-end-cases
