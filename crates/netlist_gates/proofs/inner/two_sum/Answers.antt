-- `netlist_gates::inner::two_sum` meets its contract: the second count is compared with what the first leaves of 2^62.
use Rattle.model.proofs.Prelude.{rules}
use Rattle.netlist_gates.proofs.PinSteps.{lower-first, two-second-net, two-first-over, two-over, two-sum-is, two-sum-fits}
use Rattle.netlist_gates.proofs.inner.two_sum.Goals as goal

pub bounds-counts-u16_at : goal.bounds-counts-u16_at
bounds-counts-u16_at c = search (lower-first, rules)

pub bounds-counts-u16_at-2 : goal.bounds-counts-u16_at-2
bounds-counts-u16_at-2 c = search (two-second-net, rules)

pub returns-then-first-gt-MAX_COUNT : goal.returns-then-first-gt-MAX_COUNT
returns-then-first-gt-MAX_COUNT c = search (two-first-over, rules)

pub returns-then-first-second : goal.returns-then-first-second
returns-then-first-second c = search (two-over, rules)

pub returns : goal.returns
returns c = search (two-sum-is, two-sum-fits, rules)
