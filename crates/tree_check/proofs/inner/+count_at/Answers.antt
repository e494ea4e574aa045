-- `tree_check::inner::count_at` meets its contract: the height falls at each call, and the leaves of a node are those of its children.
-- what the calls of the body are asked and give
use Rattle.model.proofs.Prelude.{rules}
use Rattle.tree_check.proofs.CountCases.{count-leaf, count_fits, count-two, count-fits3, count-three}
use Rattle.tree_check.proofs.inner.+count_at.Goals as goal

pub overflow_add-result : goal.overflow_add-result
overflow_add-result t c = search (count_fits, rules)

pub overflow_add-result-2 : goal.overflow_add-result-2
overflow_add-result-2 t c = search (count_fits, rules)

pub overflow_add-result-3 : goal.overflow_add-result-3
overflow_add-result-3 t c = search (count-fits3, rules)

pub returns : goal.returns
returns t c = search (count-three, rules)

pub returns-then-height-eq0 : goal.returns-then-height-eq0
returns-then-height-eq0 t c = search (count-leaf, rules)

pub returns-then-third-eq0 : goal.returns-then-third-eq0
returns-then-third-eq0 t c = search (count-two, rules)
