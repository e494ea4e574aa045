-- `tree::asking::total_of` meets its contract: the root records the total.
use Rattle.model.proofs.Prelude.{rules}
use Rattle.tree.proofs.TreeCallCases.{total-none, total-some}
use Rattle.tree_lookup.proofs.RootLaws.{root_end}
use Rattle.tree.proofs.asking.total_of.Goals as goal

pub returns-then-levels-eq0 : goal.returns-then-levels-eq0
returns-then-levels-eq0 c = search (total-none, rules)

pub total_at-requires : goal.total_at-requires
total_at-requires c = search (root_end, rules)

pub returns : goal.returns
returns c = search (total-some, rules)
