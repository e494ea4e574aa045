-- `audit_pieces::end_on` meets its contract: each return is one case of the end, the netlist first.
use Rattle.model.proofs.Prelude.{rules}
use Rattle.audit_pieces.proofs.EndCases.{Stage-cases}
use Rattle.audit_pieces.proofs.end_on.Goals as goal

pub end_legal-requires : goal.end_legal-requires
end_legal-requires c = (search Stage-cases, search Stage-cases, search rules)

pub returns-in-Err : goal.returns-in-Err
returns-in-Err c = search Stage-cases

pub returns-in-Ok : goal.returns-in-Ok
returns-in-Ok c = search Stage-cases
