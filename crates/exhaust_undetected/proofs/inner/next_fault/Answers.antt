-- `exhaust_undetected::inner::next_fault` meets its contract: the lower one of the first faults of each edge that are not held.
use Rattle.exhaust_undetected.proofs.FirstLaws.{first-cases}
use Rattle.exhaust_undetected.proofs.inner.next_fault.Goals as goal

pub returns-then-rising-falling : goal.returns-then-rising-falling
returns-then-rising-falling c = search first-cases

pub returns : goal.returns
returns c = search first-cases
