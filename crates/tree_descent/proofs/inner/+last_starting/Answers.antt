-- `tree_descent::inner::last_starting` meets its contract: the height falls at each call, and no run behind the child chosen begins at the number or below.
use Rattle.model.proofs.Prelude.{rules}
use Rattle.tree_descent.proofs.ReachCases.{start-leaf, start-low, start-good, start-on}
use Rattle.tree_words.proofs.ChildLaws.{height_less}
use Rattle.tree_descent.proofs.inner.+last_starting.Goals as goal

pub last_starting-requires : goal.last_starting-requires
last_starting-requires t c = search (start-low, start-good, height_less, rules)

pub returns : goal.returns
returns t c = search (start-on, rules)

pub returns-then-height-eq0 : goal.returns-then-height-eq0
returns-then-height-eq0 t c = search (start-leaf, rules)
