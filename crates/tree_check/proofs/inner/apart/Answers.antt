-- `tree_check::inner::apart` meets its contract: the gap is compared by a difference, so nothing overflows.
use Rattle.model.proofs.Prelude.{rules}
use Rattle.tree_check.proofs.TestCases.{apart_fits, apart-not}
use Rattle.tree_check.proofs.inner.apart.Goals as goal

pub returns-then-low-high : goal.returns-then-low-high
returns-then-low-high c = search (apart-not, rules)

pub returns : goal.returns
returns c = search (apart_fits, rules)
