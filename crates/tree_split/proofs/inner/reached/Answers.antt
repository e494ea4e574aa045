-- `tree_split::inner::reached` meets its contract: the numbers below a node end at 2^62 or below, so nothing overflows.
use Rattle.model.proofs.Prelude.{rules}
use Rattle.tree_split.proofs.inner.reached.Goals as goal

pub returns : goal.returns
returns c = search rules
