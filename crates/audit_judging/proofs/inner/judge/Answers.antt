-- `audit_judging::inner::judge` meets its contract: the place Report passes, or it refuses.
use Rattle.audit_judging.proofs.JudgingCases.{judge-cases}
use Rattle.audit_judging.proofs.inner.judge.Goals as goal

pub returns-in-Ok : goal.returns-in-Ok
returns-in-Ok c = search judge-cases

pub returns-in-Err : goal.returns-in-Err
returns-in-Err c = search judge-cases
