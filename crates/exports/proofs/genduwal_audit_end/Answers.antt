-- `exports::genduwal_audit_end` meets its contract.
use Rattle.exports.proofs.CallCases.{end_refused, end-accepted}
use Rattle.exports.proofs.genduwal_audit_end.Goals as goal

pub returns-in-Err : goal.returns-in-Err
returns-in-Err c =
    record { result_value = end_refused c.audit_end-ended.ensures _ c.in-Err.is; store_after = c.audit_end-ended.ensures.store }

pub returns-in-Ok : goal.returns-in-Ok
returns-in-Ok c =
    record { result_value = end-accepted c.audit_end-ended.ensures c.in-Ok.is; store_after = c.audit_end-ended.ensures.store }
