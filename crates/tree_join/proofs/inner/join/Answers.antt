-- `tree_join::inner::join` meets its contract: an empty tree leaves the other as it is; else the lower is put into the higher, and what comes out gets a root.
use Rattle.model.proofs.Prelude.{rules}
use Rattle.tree_join.proofs.TreeCases.{join_second, join_first, level_a, level_b, right-two, right-joins, left-two, left-joins}
use Rattle.tree_join.proofs.inner.join.Goals as goal

pub returns-then-levels1-eq0 : goal.returns-then-levels1-eq0
returns-then-levels1-eq0 c = search (join_second, rules)

pub returns-then-levels2-eq0 : goal.returns-then-levels2-eq0
returns-then-levels2-eq0 c = search (join_first, rules)

pub overflow_sub-levels1-then-levels2-levels1 : goal.overflow_sub-levels1-then-levels2-levels1
overflow_sub-levels1-then-levels2-levels1 c = search (level_a, level_b, rules)

pub returns-then-levels2-levels1 : goal.returns-then-levels2-levels1
returns-then-levels2-levels1 c = search (right-joins, rules)

pub returns : goal.returns
returns c = search (left-joins, rules)

pub join_left-g-requires-clause-beside : goal.join_left-g-requires-clause-beside
join_left-g-requires-clause-beside c = search (left-two, rules)

pub join_right-g-requires-clause-beside : goal.join_right-g-requires-clause-beside
join_right-g-requires-clause-beside c = search (right-two, rules)
