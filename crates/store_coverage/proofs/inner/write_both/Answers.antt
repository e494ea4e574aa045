-- `store_coverage::inner::write_both` meets its contract: where one more test can be counted and both edges fit the store is written, edge by edge, and the
-- test counted.
use Rattle.model.proofs.Prelude.{ap, not}
use Rattle.store_coverage.proofs.WorkLaws.{write-cases, write_counts, write_over, write_full}
use Rattle.store_coverage.proofs.inner.write_both.Goals as goal

pub tests_left-requires : goal.tests_left-requires
tests_left-requires c = search write-cases

pub returns-then-not-tests_left : goal.returns-then-not-tests_left
returns-then-not-tests_left c = search write-cases

pub write_runs-requires : goal.write_runs-requires
write_runs-requires c = search write-cases

pub write_runs-requires-in-Ok : goal.write_runs-requires-in-Ok
write_runs-requires-in-Ok c = search write-cases

pub count_test-requires : goal.count_test-requires
count_test-requires c =
    write_counts c.tests_left.ensures (ap not c.if-not-tests_left.false) c.in-Ok.is c.write_runs.ensures
    c.write_runs-in-Ok.ensures c.requires

pub refuse-requires : goal.refuse-requires
refuse-requires c = search write-cases

pub refuse-requires-in-Err-Store : goal.refuse-requires-in-Err-Store
refuse-requires-in-Err-Store c = search write-cases

pub returns-else-not-tests_left : goal.returns-else-not-tests_left
returns-else-not-tests_left c = search write-cases

pub returns-in-Err-Work : goal.returns-in-Err-Work
returns-in-Err-Work c = write_over c.in-Err-Work.is (rw c.in-Err-Work.is at c.in-Err-Work.field-0-is) c.refuse.ensures

pub returns-in-Err-Store : goal.returns-in-Err-Store
returns-in-Err-Store c = write_full c.in-Err-Store.is (rw c.in-Err-Store.is at c.in-Err-Store.field-0-is) c.refuse-in-Err-Store.ensures
