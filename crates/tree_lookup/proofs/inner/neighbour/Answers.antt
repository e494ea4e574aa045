-- `tree_lookup::inner::neighbour` meets its contract: the first run that reaches the number below the low end is the least adjacent one, or none is.
use Rattle.model.proofs.Prelude.{rules}
use Rattle.tree_lookup.proofs.LookupCases.{found_inside, near-zero, near-below, near-far, near-above}
use Rattle.tree_lookup.proofs.inner.neighbour.Goals as goal

pub returns-then-near-eq0 : goal.returns-then-near-eq0
returns-then-near-eq0 c = search (near-zero, rules)

pub high_at-requires : goal.high_at-requires
high_at-requires c = search (found_inside, rules)

pub returns-then-high_at-low : goal.returns-then-high_at-low
returns-then-high_at-low c = search (near-below, rules)

pub low_at-requires : goal.low_at-requires
low_at-requires c = search (found_inside, rules)

pub returns-then-high-low_at : goal.returns-then-high-low_at
returns-then-high-low_at c = search (near-far, rules)

pub returns : goal.returns
returns c = search (near-above, rules)
