-- `tree_split::inner::in_second` meets its contract: without a third child the second is the last.
use Rattle.tree_split.proofs.SecondCases.{second-yes, second-ask}
use Rattle.tree_split.proofs.inner.in_second.Goals as goal

pub returns-then-third-eq0 : goal.returns-then-third-eq0
returns-then-third-eq0 c = second-yes _ 0 c.if-third-eq0.true _

pub returns : goal.returns
returns c = second-ask _ 0 c.if-third-eq0.false _ _ c.reached.ensures
