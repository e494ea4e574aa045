-- `tree_descent::inner::reaching_child` meets its contract: each test is one of the definition, in its order.
use Rattle.model.proofs.Prelude.{rules}
use Rattle.tree_descent.proofs.ReachCases.{to-first, to-second, to-middle, to-third}
use Rattle.tree_descent.proofs.inner.reaching_child.Goals as goal

pub returns-then-x-words : goal.returns-then-x-words
returns-then-x-words c = search (to-first, to-second, to-middle, to-third, rules)

pub returns-then-third-eq0 : goal.returns-then-third-eq0
returns-then-third-eq0 c = search (to-first, to-second, to-middle, to-third, rules)

pub returns-then-x-words-2 : goal.returns-then-x-words-2
returns-then-x-words-2 c = search (to-first, to-second, to-middle, to-third, rules)

pub returns : goal.returns
returns c = search (to-first, to-second, to-middle, to-third, rules)
