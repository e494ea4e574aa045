-- `load_walk::inner::least` meets its contract: each return is one side of the comparison.
use Rattle.load_walk.proofs.WalkCases.{lesser-cases}
use Rattle.load_walk.proofs.inner.least.Goals as goal

pub returns-then-a-b : goal.returns-then-a-b
returns-then-a-b c = search lesser-cases

pub returns-else-a-b : goal.returns-else-a-b
returns-else-a-b c = search lesser-cases
