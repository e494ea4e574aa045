-- `tree_descent::inner::first_reaching` meets its contract: the height falls at each call, and no run before the child chosen reaches the number.
use Rattle.model.proofs.Prelude.{rules}
use Rattle.tree_descent.proofs.ReachCases.{reach_readable, reach_leaf, reach_high, reach_good, reach_on}
use Rattle.tree_words.proofs.ChildLaws.{height_less}
use Rattle.tree_descent.proofs.inner.+first_reaching.Goals as goal

pub first_reaching-requires : goal.first_reaching-requires
first_reaching-requires t c = search (reach_high, reach_good, height_less, rules)

pub reaching_child-child-requires : goal.reaching_child-child-requires
reaching_child-child-requires t c = search (reach_readable, rules)

pub returns : goal.returns
returns t c = search (reach_on, rules)

pub returns-then-height-eq0 : goal.returns-then-height-eq0
returns-then-height-eq0 t c = search (reach_leaf, rules)
