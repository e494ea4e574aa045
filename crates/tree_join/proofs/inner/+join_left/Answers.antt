-- `tree_join::inner::join_left` meets its contract: the height falls at each call; before the first child at its own height the lower tree becomes a neighbour.
use Rattle.model.proofs.Prelude.{rules}
use Rattle.tree_join.proofs.JoinCases.{join-cases}
use Rattle.tree_join.proofs.inner.+join_left.Goals as goal

pub attach_first-requires-clause-attach_first : goal.attach_first-requires-clause-attach_first
attach_first-requires-clause-attach_first t c = search (join-cases, rules)

pub join_left-g-requires : goal.join_left-g-requires
join_left-g-requires t c = search (join-cases, rules)

pub returns : goal.returns
returns t c = search (join-cases, rules)

pub returns-then-height-low : goal.returns-then-height-low
returns-then-height-low t c = search (join-cases, rules)
