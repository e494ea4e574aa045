-- `run_lists::inner::size` meets its contract: the sum so far and the size of what is left are the whole, which is at most 2^62.
use Rattle.model.proofs.Prelude.{rules}
use Rattle.run_lists.proofs.SizeSteps.{size-order, size-one, size-sum, size-next, size-end}
use Rattle.run_lists.proofs.inner.size.Goals as goal

pub overflow_sub-sum : goal.overflow_sub-sum
overflow_sub-sum c = search (size-order, rules)

pub overflow_add-sum-in-loop-i : goal.overflow_add-sum-in-loop-i
overflow_add-sum-in-loop-i c = search (size-one, rules)

pub overflow_add-sum-in-loop-i-2 : goal.overflow_add-sum-in-loop-i-2
overflow_add-sum-in-loop-i-2 c = search (size-sum, rules)

pub loop-i-preserved : goal.loop-i-preserved
loop-i-preserved c = search (size-next, rules)

pub returns : goal.returns
returns c = search (size-end, rules)
