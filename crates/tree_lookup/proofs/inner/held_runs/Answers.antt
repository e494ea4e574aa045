-- `tree_lookup::inner::held_runs` meets its contract: the runs held are the leaves below the root.
use Rattle.model.proofs.Prelude.{rules}
use Rattle.tree_lookup.proofs.LookupCases.{count-empty, count-root}
use Rattle.tree_lookup.proofs.RootLaws.{root_good, root_free, root_few}
use Rattle.tree_lookup.proofs.inner.held_runs.Goals as goal

pub returns-then-levels-eq0 : goal.returns-then-levels-eq0
returns-then-levels-eq0 c = search (count-empty, rules)

pub returns : goal.returns
returns c = search (count-root, rules)

pub count_at-requires-clause-free_in_bounds : goal.count_at-requires-clause-free_in_bounds
count_at-requires-clause-free_in_bounds c = search (root_good, root_free, root_few, rules)

pub count_at-requires-clause-good : goal.count_at-requires-clause-good
count_at-requires-clause-good c = search (root_good, rules)
