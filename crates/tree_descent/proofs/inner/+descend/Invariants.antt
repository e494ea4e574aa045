-- The height falls at each call.
use Rattle.tree_descent.proofs.inner.+descend.Given as goal

abbrev pub decreases-descend : goal.decreases-descend
decreases-descend l = l.height
