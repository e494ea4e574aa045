-- The height falls at each call.
use Rattle.tree_descent.proofs.inner.+first_reaching.Given as goal

abbrev pub decreases-first_reaching : goal.decreases-first_reaching
decreases-first_reaching l = l.height
