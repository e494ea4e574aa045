-- `load_walk::begin` meets its contract: another length, refused inputs, or a load from its seed on.
use Rattle.load_walk.proofs.WalkCases.{begin-cases}
use Rattle.load_walk.proofs.begin.Goals as goal

pub returns-then-not-fit : goal.returns-then-not-fit
returns-then-not-fit c = search begin-cases

pub returns-in-None : goal.returns-in-None
returns-in-None c = search begin-cases

pub returns-else-not-fit : goal.returns-else-not-fit
returns-else-not-fit c = search begin-cases
