-- `tree_join::inner::attach_first` meets its contract: the new children come first, and the children behind the first follow them.
use Rattle.model.proofs.Prelude.{rules}
use Rattle.tree_join.proofs.AttachCases.{attach-cases}
use Rattle.tree_join.proofs.inner.attach_first.Goals as goal

pub second_child-child2-requires : goal.second_child-child2-requires
second_child-child2-requires c = search attach-cases

pub third_child-child3-requires : goal.third_child-child3-requires
third_child-child3-requires c = search attach-cases

pub returns-then-second-eq0 : goal.returns-then-second-eq0
returns-then-second-eq0 c = search attach-cases

pub returns : goal.returns
returns c = search attach-cases

pub group-requires-2-clause-neighbours : goal.group-requires-2-clause-neighbours
group-requires-2-clause-neighbours c = search (attach-cases, rules)

pub group-requires-clause-neighbours : goal.group-requires-clause-neighbours
group-requires-clause-neighbours c = search (attach-cases, rules)
