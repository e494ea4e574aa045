-- `audit_judging::inner::end_legal` meets its contract: each return is one case of the end on a legal netlist.
use Rattle.audit_judging.proofs.JudgingCases.{legal-cases}
use Rattle.audit_judging.proofs.inner.end_legal.Goals as goal

pub returns-then-not-whole_length : goal.returns-then-not-whole_length
returns-then-not-whole_length c = search legal-cases

pub returns-then-first-ne0 : goal.returns-then-first-ne0
returns-then-first-ne0 c = search legal-cases

pub compare-compared-requires : goal.compare-compared-requires
compare-compared-requires c = search legal-cases

pub returns-in-Err : goal.returns-in-Err
returns-in-Err c = search legal-cases

pub returns-in-Ok-compared : goal.returns-in-Ok-compared
returns-in-Ok-compared c = search legal-cases

pub returns-in-Err-compared : goal.returns-in-Err-compared
returns-in-Err-compared c = search legal-cases
