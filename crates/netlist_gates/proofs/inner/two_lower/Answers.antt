-- `netlist_gates::inner::two_lower` meets its contract: the first pin, then the second.
use Rattle.model.proofs.Prelude.{rules}
use Rattle.netlist_gates.proofs.PinSteps.{two-first-not, two-decides}
use Rattle.netlist_gates.proofs.inner.two_lower.Goals as goal

pub returns-then-net-first : goal.returns-then-net-first
returns-then-net-first c = search (two-first-not, rules)

pub returns : goal.returns
returns c = search (two-decides, rules)
