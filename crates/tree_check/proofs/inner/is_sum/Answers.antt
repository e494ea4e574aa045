-- `tree_check::inner::is_sum` meets its contract: the sum is compared by a difference, so nothing overflows.
use Rattle.model.proofs.Prelude.{rules}
use Rattle.tree_check.proofs.TestCases.{sum_fits, sum-not}
use Rattle.tree_check.proofs.inner.is_sum.Goals as goal

pub returns-then-total-a : goal.returns-then-total-a
returns-then-total-a c = search (sum-not, rules)

pub returns : goal.returns
returns c = search (sum_fits, rules)
