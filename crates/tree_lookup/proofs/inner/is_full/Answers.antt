-- `tree_lookup::inner::is_full` meets its contract: a run that touches none is one more; a run that touches some leaves no more than there were.
use Rattle.model.proofs.Prelude.{rules}
use Rattle.tree_lookup.proofs.LookupCases.{found_inside, full-touch, full-none, full-far}
use Rattle.tree_lookup.proofs.inner.is_full.Goals as goal

pub low_at-requires : goal.low_at-requires
low_at-requires c = search (found_inside, rules)

pub returns-then-low_at-high : goal.returns-then-low_at-high
returns-then-low_at-high c = search (full-touch, rules)

pub returns-then-at-ne0 : goal.returns-then-at-ne0
returns-then-at-ne0 c = search (full-far, rules)

pub returns : goal.returns
returns c = search (full-none, rules)
