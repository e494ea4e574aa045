-- `tree_descent::inner::in_leaf` meets its contract: the number lies between the ends of the run.
use Rattle.model.proofs.Prelude.{rules}
use Rattle.tree_descent.proofs.VisitCases.{leaf-both, leaf_first}
use Rattle.tree_descent.proofs.inner.in_leaf.Goals as goal

pub returns-then-words-at : goal.returns-then-words-at
returns-then-words-at c = search (leaf-both, rules)

pub returns-else-words-at : goal.returns-else-words-at
returns-else-words-at c = search (leaf_first, rules)
