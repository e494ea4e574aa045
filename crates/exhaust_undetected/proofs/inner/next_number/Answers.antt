-- `exhaust_undetected::inner::next_number` meets its contract: the first fault that is not held, if its path is one of so many.
use Rattle.exhaust_undetected.proofs.ListedCases.{next-cases}
use Rattle.exhaust_undetected.proofs.inner.next_number.Goals as goal

pub returns-then-paths-path : goal.returns-then-paths-path
returns-then-paths-path c = search next-cases

pub returns-in-Err : goal.returns-in-Err
returns-in-Err c = search next-cases

pub returns-else-paths-path : goal.returns-else-paths-path
returns-else-paths-path c = search next-cases
