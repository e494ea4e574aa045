-- `tree_compaction::inner::put_tree` meets its contract: the head is written last, over a tree that is there: no node stands in its words.
use Rattle.model.proofs.Prelude.{rules}
use Rattle.tree_compaction.proofs.HeadLaws.{put-tree-none, put-tree-some}
use Rattle.tree_compaction.proofs.inner.put_tree.Goals as goal

pub returns-then-levels-eq0 : goal.returns-then-levels-eq0
returns-then-levels-eq0 c = search (put-tree-none, rules)

pub returns : goal.returns
returns c = search (put-tree-some, rules)
