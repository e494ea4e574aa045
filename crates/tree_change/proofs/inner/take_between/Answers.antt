-- `tree_change::inner::take_between` meets its contract: the parts below and above are separated as the runs left are, so they join to a tree of these runs.
use Rattle.model.proofs.Prelude.{rules}
use Rattle.tree_change.proofs.BetweenCases.{rest-room, rest_both, rest-ready, rest-done}
use Rattle.tree_change.proofs.inner.take_between.Goals as goal

pub join-tree-requires-clause-both : goal.join-tree-requires-clause-both
join-tree-requires-clause-both c = search (rest-room, rest_both, rules)

pub join-tree-requires-clause-room : goal.join-tree-requires-clause-room
join-tree-requires-clause-room c = search (rest-room, rest_both, rest-ready, rest-done, rules)

pub put_tree-requires : goal.put_tree-requires
put_tree-requires c = search (rest-ready, rules)
