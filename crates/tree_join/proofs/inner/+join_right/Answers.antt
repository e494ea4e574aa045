-- `tree_join::inner::join_right` meets its contract: the height falls at each call; below the last child at its own height the lower tree becomes a neighbour.
use Rattle.model.proofs.Prelude.{rules}
use Rattle.tree_join.proofs.JoinCases.{join-cases}
use Rattle.tree_join.proofs.inner.+join_right.Goals as goal

pub attach_last-requires-clause-attach_last : goal.attach_last-requires-clause-attach_last
attach_last-requires-clause-attach_last t c = search (join-cases, rules)

pub join_right-g-requires : goal.join_right-g-requires
join_right-g-requires t c = search (join-cases, rules)

pub returns : goal.returns
returns t c = search (join-cases, rules)

pub returns-then-height-low : goal.returns-then-height-low
returns-then-height-low t c = search (join-cases, rules)
