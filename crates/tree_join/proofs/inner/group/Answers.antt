-- `tree_join::inner::group` meets its contract: the neighbours are separated, so their totals fit and the new nodes are sound.
use Rattle.tree_join.proofs.GroupCases.{group-cases}
use Rattle.tree_join.proofs.inner.group.Goals as goal

pub put_two-requires : goal.put_two-requires
put_two-requires c = search group-cases

pub returns-then-c-eq0 : goal.returns-then-c-eq0
returns-then-c-eq0 c = search group-cases

pub put_three-requires : goal.put_three-requires
put_three-requires c = search group-cases

pub returns-then-d-eq0 : goal.returns-then-d-eq0
returns-then-d-eq0 c = search group-cases

pub put_two-requires-2 : goal.put_two-requires-2
put_two-requires-2 c = search group-cases

pub put_two-requires-3 : goal.put_two-requires-3
put_two-requires-3 c = search group-cases

pub returns : goal.returns
returns c = search group-cases
