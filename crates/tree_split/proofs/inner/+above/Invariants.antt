-- The height falls at each call.
use Rattle.tree_split.proofs.inner.+above.Given as goal

abbrev pub decreases-above : goal.decreases-above
decreases-above l = l.height
