-- `tree_lookup::inner::joined_low` meets its contract: the low end is the smaller of the run's and that of the first run that reaches next to it.
use Rattle.model.proofs.Prelude.{rules}
use Rattle.tree_lookup.proofs.LookupCases.{found_inside, low-zero, low-it, low-own}
use Rattle.tree_lookup.proofs.inner.joined_low.Goals as goal

pub returns-then-at-eq0 : goal.returns-then-at-eq0
returns-then-at-eq0 c = search (low-zero, rules)

pub low_at-least-requires : goal.low_at-least-requires
low_at-least-requires c = search (found_inside, rules)

pub returns-then-least-low : goal.returns-then-least-low
returns-then-least-low c = search (low-it, rules)

pub returns : goal.returns
returns c = search (low-own, rules)
