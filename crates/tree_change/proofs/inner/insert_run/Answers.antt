-- `tree_change::inner::insert_run` meets its contract: an empty tree gets one leaf; else room is made first, which leaves the runs.
use Rattle.model.proofs.Prelude.{rules}
use Rattle.tree_change.proofs.ChangeCases.{first-ready, first_done, insert_asks, insert_done}
use Rattle.tree_change.proofs.inner.insert_run.Goals as goal

pub put_between-requires : goal.put_between-requires
put_between-requires c = search (insert_asks, rules)

pub put_tree-requires : goal.put_tree-requires
put_tree-requires c = search (first-ready, rules)

pub returns : goal.returns
returns c = search (insert_done, rules)

pub returns-then-levels-eq0 : goal.returns-then-levels-eq0
returns-then-levels-eq0 c = search (first_done, rules)
