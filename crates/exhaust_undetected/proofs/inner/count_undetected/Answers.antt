-- `exhaust_undetected::inner::count_undetected` meets its contract: the faults of each edge that are not held.
use Rattle.exhaust_undetected.proofs.ListedCases.{count-cases}
use Rattle.exhaust_undetected.proofs.inner.count_undetected.Goals as goal

pub totals_of-held-requires : goal.totals_of-held-requires
totals_of-held-requires c = search count-cases

pub overflow_sub-result : goal.overflow_sub-result
overflow_sub-result c = search count-cases

pub overflow_sub-result-2 : goal.overflow_sub-result-2
overflow_sub-result-2 c = search count-cases

pub returns : goal.returns
returns c = search count-cases
