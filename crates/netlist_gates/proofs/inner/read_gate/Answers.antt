-- `netlist_gates::inner::read_gate` meets its contract: each return is a case of the gate, by what was read before it.
use Rattle.netlist_gates.proofs.GateCases.{gate-cases, lower-more}
use Rattle.netlist_gates.proofs.inner.read_gate.Goals as goal

pub returns-then-not-marked : goal.returns-then-not-marked
returns-then-not-marked c = search gate-cases

pub bounds-part-2 : goal.bounds-part-2
bounds-part-2 c = search gate-cases

pub bounds-part-3 : goal.bounds-part-3
bounds-part-3 c = search gate-cases

pub returns-then-kind-lt1 : goal.returns-then-kind-lt1
returns-then-kind-lt1 c = search gate-cases

pub returns-then-kind-gt8 : goal.returns-then-kind-gt8
returns-then-kind-gt8 c = search gate-cases

pub returns-then-not-fits : goal.returns-then-not-fits
returns-then-not-fits c = search gate-cases

pub returns-then-part-size : goal.returns-then-part-size
returns-then-part-size c = search gate-cases

pub returns-then-not-lower : goal.returns-then-not-lower
returns-then-not-lower c = search gate-cases

pub pin_sum-sum-requires : goal.pin_sum-sum-requires
pin_sum-sum-requires c = search (lower-more, gate-cases)

pub returns-in-Some : goal.returns-in-Some
returns-in-Some c = search gate-cases

pub returns-in-None : goal.returns-in-None
returns-in-None c = search gate-cases
