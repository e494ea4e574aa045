-- The height falls at each call.
use Rattle.tree_check.proofs.inner.+count_at.Given as goal

abbrev pub decreases-count_at : goal.decreases-count_at
decreases-count_at l = l.height
