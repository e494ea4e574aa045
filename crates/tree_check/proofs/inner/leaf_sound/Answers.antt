-- `tree_check::inner::leaf_sound` meets its contract: a leaf inside the used words can be read.
use Rattle.model.proofs.Prelude.{rules}
use Rattle.tree_check.proofs.NodeTestCases.{leafs_no0, leafs_last, in_length}
use Rattle.tree_check.proofs.inner.leaf_sound.Goals as goal

pub returns-then-not-inside : goal.returns-then-not-inside
returns-then-not-inside c = search (leafs_no0, rules)

pub leaf_true-requires : goal.leaf_true-requires
leaf_true-requires c = search (in_length, rules)

pub returns : goal.returns
returns c = search (leafs_last, rules)
