-- `tree_join::inner::attach_last` meets its contract: the children before the last stay, and the new ones follow them.
use Rattle.model.proofs.Prelude.{rules}
use Rattle.tree_join.proofs.AttachCases.{attach-cases, last-two-asks, last-three-asks}
use Rattle.tree_join.proofs.inner.attach_last.Goals as goal

pub first_child-child1-requires : goal.first_child-child1-requires
first_child-child1-requires c = search attach-cases

pub second_child-child2-requires : goal.second_child-child2-requires
second_child-child2-requires c = search attach-cases

pub third_child-child3-requires : goal.third_child-child3-requires
third_child-child3-requires c = search attach-cases

pub returns-then-child3-eq0 : goal.returns-then-child3-eq0
returns-then-child3-eq0 c = search attach-cases

pub returns : goal.returns
returns c = search attach-cases

pub group-requires-2-clause-neighbours : goal.group-requires-2-clause-neighbours
group-requires-2-clause-neighbours c = search (last-three-asks, rules)

pub group-requires-clause-neighbours : goal.group-requires-clause-neighbours
group-requires-clause-neighbours c = search (last-two-asks, rules)
