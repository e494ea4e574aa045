-- `tree_check::inner::is_sum_of_three` meets its contract: the sum is compared by differences, so nothing overflows.
use Rattle.model.proofs.Prelude.{rules}
use Rattle.tree_check.proofs.TestCases.{sum3-fits, sum3-not}
use Rattle.tree_check.proofs.inner.is_sum_of_three.Goals as goal

pub returns-then-total-a : goal.returns-then-total-a
returns-then-total-a c = search (sum3-not, rules)

pub returns : goal.returns
returns c = search (sum3-fits, rules)
