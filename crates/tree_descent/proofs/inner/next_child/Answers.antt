-- `tree_descent::inner::next_child` meets its contract: each test is one of the definition, in its order.
use Rattle.model.proofs.Prelude.{rules}
use Rattle.tree_descent.proofs.VisitCases.{next-first, next-second, next-middle, next-third}
use Rattle.tree_descent.proofs.inner.next_child.Goals as goal

pub returns-then-number-words : goal.returns-then-number-words
returns-then-number-words c = search (next-first, next-second, next-middle, next-third, rules)

pub returns-then-third-eq0 : goal.returns-then-third-eq0
returns-then-third-eq0 c = search (next-first, next-second, next-middle, next-third, rules)

pub returns-then-number-words-2 : goal.returns-then-number-words-2
returns-then-number-words-2 c = search (next-first, next-second, next-middle, next-third, rules)

pub returns : goal.returns
returns c = search (next-first, next-second, next-middle, next-third, rules)
