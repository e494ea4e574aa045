-- `tree_lookup::inner::overlapping` meets its contract: the first run that reaches the low end overlaps, or none does.
use Rattle.model.proofs.Prelude.{rules}
use Rattle.tree_lookup.proofs.LookupCases.{found_inside, over_zero, over-behind, over-here}
use Rattle.tree_lookup.proofs.inner.overlapping.Goals as goal

pub returns-then-at-eq0 : goal.returns-then-at-eq0
returns-then-at-eq0 c = search (over_zero, rules)

pub low_at-requires : goal.low_at-requires
low_at-requires c = search (found_inside, rules)

pub returns-then-high-low_at : goal.returns-then-high-low_at
returns-then-high-low_at c = search (over-behind, rules)

pub returns : goal.returns
returns c = search (over-here, rules)
