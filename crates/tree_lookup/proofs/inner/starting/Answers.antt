-- `tree_lookup::inner::starting` meets its contract: no run begins below the root's least number; else the descent finds the last that does.
use Rattle.model.proofs.Prelude.{rules}
use Rattle.tree_lookup.proofs.LookupCases.{start-empty, start_under, start-ask, start-there}
use Rattle.tree_lookup.proofs.RootLaws.{root_end, root_good, root_free}
use Rattle.tree_lookup.proofs.inner.starting.Goals as goal

pub returns-then-levels-eq0 : goal.returns-then-levels-eq0
returns-then-levels-eq0 c = search (start-empty, rules)

pub low_at-requires : goal.low_at-requires
low_at-requires c = search (root_end, rules)

pub returns-then-x-low_at : goal.returns-then-x-low_at
returns-then-x-low_at c = search (start_under, rules)

pub returns : goal.returns
returns c = search (start-there, rules)

pub last_starting-requires-clause-free_in_bounds : goal.last_starting-requires-clause-free_in_bounds
last_starting-requires-clause-free_in_bounds c = search (start-ask, root_good, root_free, rules)

pub last_starting-requires-clause-good : goal.last_starting-requires-clause-good
last_starting-requires-clause-good c = search (root_good, rules)
