-- `report_differences::inner::walk::compare_at` meets its contract: each return is one case of where the number stands among both.
use Rattle.model.proofs.Prelude.{rules}
use Rattle.report_differences.proofs.RangeCases.{past-a, before-a, past-b, before-far, before-near, inside-all, inside-b, over_zero}
use Rattle.report_differences.proofs.inner.walk.compare_at.Goals as goal

pub enum_told-1 : goal.enum_told-1
enum_told-1 c = search rules

pub returns-else-end-next : goal.returns-else-end-next
returns-else-end-next c = search (past-a, before-a, past-b, before-far, before-near, inside-all, inside-b, over_zero, rules)

pub returns-else-last : goal.returns-else-last
returns-else-last c = search (past-a, before-a, past-b, before-far, before-near, inside-all, inside-b, over_zero, rules)

pub returns-in-Before : goal.returns-in-Before
returns-in-Before c = search (past-a, before-a, past-b, before-far, before-near, inside-all, inside-b, over_zero, rules)

pub returns-in-Past : goal.returns-in-Past
returns-in-Past c = search (past-a, before-a, past-b, before-far, before-near, inside-all, inside-b, over_zero, rules)

pub returns-in-Past-there : goal.returns-in-Past-there
returns-in-Past-there c = search (past-a, before-a, past-b, before-far, before-near, inside-all, inside-b, over_zero, rules)

pub returns-then-end-next : goal.returns-then-end-next
returns-then-end-next c = search (past-a, before-a, past-b, before-far, before-near, inside-all, inside-b, over_zero, rules)

pub returns-then-last : goal.returns-then-last
returns-then-last c = search (past-a, before-a, past-b, before-far, before-near, inside-all, inside-b, over_zero, rules)
