-- The height falls at each call.
use Rattle.tree_check.proofs.inner.+sound_at.Given as goal

abbrev pub decreases-sound_at : goal.decreases-sound_at
decreases-sound_at l = l.height
