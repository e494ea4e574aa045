-- `audit_piece_steps::inner::finish` meets its contract: each return is one case of the end.
use Rattle.audit_piece_steps.proofs.StepCases.{end-cases}
use Rattle.audit_piece_steps.proofs.inner.finish.Goals as goal

pub record_length-each-requires : goal.record_length-each-requires
record_length-each-requires c = search end-cases

pub returns-then-not-whole_length : goal.returns-then-not-whole_length
returns-then-not-whole_length c = search end-cases

pub judge-requires : goal.judge-requires
judge-requires c = search end-cases

pub returns-in-Err : goal.returns-in-Err
returns-in-Err c = search end-cases

pub returns-in-Ok : goal.returns-in-Ok
returns-in-Ok c = search end-cases
