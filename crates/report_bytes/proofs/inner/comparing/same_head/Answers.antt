-- `report_bytes::inner::comparing::same_head` meets its contract: the first field that differs decides.
use Rattle.report_bytes.proofs.HeadLaws.{head-cases}
use Rattle.report_bytes.proofs.inner.comparing.same_head.Goals as goal

pub returns-then-not-same : goal.returns-then-not-same
returns-then-not-same c = search head-cases

pub returns-then-not-same-2 : goal.returns-then-not-same-2
returns-then-not-same-2 c = search head-cases

pub returns-then-not-same-3 : goal.returns-then-not-same-3
returns-then-not-same-3 c = search head-cases

pub returns-then-not-same-4 : goal.returns-then-not-same-4
returns-then-not-same-4 c = search head-cases

pub returns-then-not-same-5 : goal.returns-then-not-same-5
returns-then-not-same-5 c = search head-cases

pub returns-then-not-same-6 : goal.returns-then-not-same-6
returns-then-not-same-6 c = search head-cases

pub returns : goal.returns
returns c = search head-cases
