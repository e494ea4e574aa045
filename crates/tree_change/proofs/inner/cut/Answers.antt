-- `tree_change::inner::cut` meets its contract: each part is made from the whole tree, whose nodes are kept.
use Rattle.model.proofs.Prelude.{rules}
use Rattle.tree_change.proofs.CutCases.{cut-first, cut-second, cut-done}
use Rattle.tree_change.proofs.inner.cut.Goals as goal

pub above-over-requires : goal.above-over-requires
above-over-requires c = search (cut-second, rules)

pub below-under-requires : goal.below-under-requires
below-under-requires c = search (cut-first, rules)

pub returns : goal.returns
returns c = search (cut-done, rules)
