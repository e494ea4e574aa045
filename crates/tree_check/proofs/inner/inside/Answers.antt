-- `tree_check::inner::inside` meets its contract: the end is compared without a sum, so nothing overflows.
use Rattle.model.proofs.Prelude.{rules}
use Rattle.tree_check.proofs.TestCases.{inside-before, inside-behind, inside-fits}
use Rattle.tree_check.proofs.inner.inside.Goals as goal

pub returns-then-at-start : goal.returns-then-at-start
returns-then-at-start c = search (inside-before, rules)

pub returns-then-free-at : goal.returns-then-free-at
returns-then-free-at c = search (inside-behind, rules)

pub returns : goal.returns
returns c = search (inside-fits, rules)
