-- `tree_lookup::inner::joined_high` meets its contract: the high end is the larger of the run's and that of the last run that begins next to it or below.
use Rattle.model.proofs.Prelude.{rules}
use Rattle.tree_lookup.proofs.LookupCases.{found_inside, high_zero, high-it, high-own}
use Rattle.tree_lookup.proofs.inner.joined_high.Goals as goal

pub returns-then-at-eq0 : goal.returns-then-at-eq0
returns-then-at-eq0 c = search (high_zero, rules)

pub high_at-most-requires : goal.high_at-most-requires
high_at-most-requires c = search (found_inside, rules)

pub returns-then-high-most : goal.returns-then-high-most
returns-then-high-most c = search (high-it, rules)

pub returns : goal.returns
returns c = search (high-own, rules)
