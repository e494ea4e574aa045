-- `tree_join::inner::attach_root` meets its contract: one node is the root, two become the children of one.
use Rattle.model.proofs.Prelude.{rules}
use Rattle.tree_join.proofs.TreeCases.{root_one, root_room, root_a, root_b, root_total, root_two}
use Rattle.tree_join.proofs.inner.attach_root.Goals as goal

pub overflow_add-result : goal.overflow_add-result
overflow_add-result c = search (root_one, root_room, root_a, root_b, root_total, root_two, rules)

pub returns-then-next-eq0 : goal.returns-then-next-eq0
returns-then-next-eq0 c = search (root_one, rules)

pub overflow_add-result-2 : goal.overflow_add-result-2
overflow_add-result-2 c = search (root_one, root_room, root_a, root_b, root_total, root_two, rules)

pub returns : goal.returns
returns c = search (root_two, rules)

pub put_two-requires-clause-at_in_bounds : goal.put_two-requires-clause-at_in_bounds
put_two-requires-clause-at_in_bounds c = search (root_room, root_a, root_b, root_total, rules)

pub put_two-requires-clause-second_bound : goal.put_two-requires-clause-second_bound
put_two-requires-clause-second_bound c = search (root_room, root_a, root_b, root_total, rules)
