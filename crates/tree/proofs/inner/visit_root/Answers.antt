-- `tree::inner::visit_root` meets its contract: an empty tree holds nothing; else the descent answers from the root.
use Rattle.model.proofs.Prelude.{rules}
use Rattle.tree.proofs.TreeCallCases.{visit_nothing, visit_zero, visit_answer, visit_way}
use Rattle.tree_lookup.proofs.RootLaws.{root_good, root_free, root_few}
use Rattle.tree.proofs.inner.visit_root.Goals as goal

pub returns-then-levels-eq0 : goal.returns-then-levels-eq0
returns-then-levels-eq0 c = (search (visit_nothing, rules), search (visit_zero, rules))

pub returns : goal.returns
returns c = (search (visit_answer, rules), search (visit_way, rules))

pub descend-requires-clause-free_in_bounds : goal.descend-requires-clause-free_in_bounds
descend-requires-clause-free_in_bounds c = search (root_good, root_free, root_few, rules)

pub descend-requires-clause-good : goal.descend-requires-clause-good
descend-requires-clause-good c = search (root_good, rules)
