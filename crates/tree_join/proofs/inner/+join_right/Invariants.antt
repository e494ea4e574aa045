-- The height falls at each call.
use Rattle.tree_join.proofs.inner.+join_right.Given as goal

abbrev pub decreases-join_right : goal.decreases-join_right
decreases-join_right l = l.height
