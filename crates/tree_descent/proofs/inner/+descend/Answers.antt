-- `tree_descent::inner::descend` meets its contract: the height falls at each call, and a number that lies below the node lies below the child chosen.
use Rattle.model.proofs.Prelude.{rules}
use Rattle.tree_descent.proofs.VisitCases.{visit_leaf, visit_one, visit_good, visit_held, visit_count, visit_few}
use Rattle.tree_words.proofs.ChildLaws.{height_less}
use Rattle.tree_descent.proofs.inner.+descend.Goals as goal

pub descend-v-requires : goal.descend-v-requires
descend-v-requires t c = search (visit_good, height_less, rules)

pub overflow_add-visited : goal.overflow_add-visited
overflow_add-visited t c = search (visit_few, rules)

pub returns : goal.returns
returns t c = search (visit_held, visit_count, rules)

pub returns-then-height-eq0 : goal.returns-then-height-eq0
returns-then-height-eq0 t c = search (visit_leaf, visit_one, rules)
