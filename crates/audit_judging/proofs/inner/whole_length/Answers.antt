-- `audit_judging::inner::whole_length` meets its contract: a cut record decides, or the number of records does.
use Rattle.audit_judging.proofs.JudgingCases.{length-cases}
use Rattle.audit_judging.proofs.inner.whole_length.Goals as goal

pub returns-then-bytes-each-eq0 : goal.returns-then-bytes-each-eq0
returns-then-bytes-each-eq0 c = search length-cases

pub returns-else-bytes-each-eq0 : goal.returns-else-bytes-each-eq0
returns-else-bytes-each-eq0 c = search length-cases
