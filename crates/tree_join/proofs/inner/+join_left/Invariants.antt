-- The height falls at each call.
use Rattle.tree_join.proofs.inner.+join_left.Given as goal

abbrev pub decreases-join_left : goal.decreases-join_left
decreases-join_left l = l.height
