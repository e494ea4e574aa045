-- `audit_piece_steps::inner::apply_piece` meets its contract: after a refused record nothing changes, else the records are taken.
use Rattle.audit_piece_steps.proofs.StepCases.{piece-cases}
use Rattle.audit_piece_steps.proofs.inner.apply_piece.Goals as goal

pub apply_records-more-requires : goal.apply_records-more-requires
apply_records-more-requires c = search piece-cases

pub returns-in-Err : goal.returns-in-Err
returns-in-Err c = search piece-cases

pub returns-in-Ok : goal.returns-in-Ok
returns-in-Ok c = search piece-cases
