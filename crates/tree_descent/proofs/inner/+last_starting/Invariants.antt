-- The height falls at each call.
use Rattle.tree_descent.proofs.inner.+last_starting.Given as goal

abbrev pub decreases-last_starting : goal.decreases-last_starting
decreases-last_starting l = l.height
