-- `store_coverage::inner::refuse` meets its contract: the test of the number of tests decides.
use Rattle.store_coverage.proofs.WorkLaws.{refuse-cases}
use Rattle.store_coverage.proofs.inner.refuse.Goals as goal

pub returns-then-tests_left : goal.returns-then-tests_left
returns-then-tests_left c = search refuse-cases

pub returns : goal.returns
returns c = search refuse-cases
