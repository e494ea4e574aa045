-- The height falls at each call.
use Rattle.tree_split.proofs.inner.+below.Given as goal

abbrev pub decreases-below : goal.decreases-below
decreases-below l = l.height
