-- `audit_pieces::audit_begin` meets its contract: the answer is handed on, the tables are let go.
use Rattle.audit_pieces.proofs.BeginCases.{begin-call-cases}
use Rattle.audit_pieces.proofs.audit_begin.Goals as goal

pub returns : goal.returns
returns c = search begin-call-cases
