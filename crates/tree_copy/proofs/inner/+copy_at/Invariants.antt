-- The height falls at each call.
use Rattle.tree_copy.proofs.inner.+copy_at.Given as goal

abbrev pub decreases-copy_at : goal.decreases-copy_at
decreases-copy_at l = l.height
