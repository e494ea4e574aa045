-- `tree_lookup::inner::reaching` meets its contract: no run reaches a number over the root's largest; else the descent finds the first that does.
use Rattle.model.proofs.Prelude.{rules}
use Rattle.tree_lookup.proofs.LookupCases.{reach_empty, reach_over, reach_ask, reach_there}
use Rattle.tree_lookup.proofs.RootLaws.{root_end, root_good, root_free}
use Rattle.tree_lookup.proofs.inner.reaching.Goals as goal

pub returns-then-levels-eq0 : goal.returns-then-levels-eq0
returns-then-levels-eq0 c = search (reach_empty, rules)

pub high_at-requires : goal.high_at-requires
high_at-requires c = search (root_end, rules)

pub returns-then-high_at-x : goal.returns-then-high_at-x
returns-then-high_at-x c = search (reach_over, rules)

pub returns : goal.returns
returns c = search (reach_there, rules)

pub first_reaching-requires-clause-free_in_bounds : goal.first_reaching-requires-clause-free_in_bounds
first_reaching-requires-clause-free_in_bounds c = search (reach_ask, root_good, root_free, rules)

pub first_reaching-requires-clause-good : goal.first_reaching-requires-clause-good
first_reaching-requires-clause-good c = search (root_good, rules)
