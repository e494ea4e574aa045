-- `tree_lookup::inner::is_stored` meets its contract: only the first run that reaches the high end can be the run asked for.
use Rattle.model.proofs.Prelude.{rules}
use Rattle.tree_lookup.proofs.LookupCases.{found_inside, stored-zero, stored_other, stored_same}
use Rattle.tree_lookup.proofs.inner.is_stored.Goals as goal

pub returns-then-at-eq0 : goal.returns-then-at-eq0
returns-then-at-eq0 c = search (stored-zero, rules)

pub low_at-requires : goal.low_at-requires
low_at-requires c = search (found_inside, rules)

pub returns-then-low_at-low : goal.returns-then-low_at-low
returns-then-low_at-low c = search (stored_other, rules)

pub high_at-requires : goal.high_at-requires
high_at-requires c = search (found_inside, rules)

pub returns : goal.returns
returns c = search (stored_same, rules)
