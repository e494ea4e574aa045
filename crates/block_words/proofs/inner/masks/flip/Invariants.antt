-- `block_words::inner::masks::flip` meets its contract. The loop's invariant: the inputs that changed and are not left are flipped.
use Rattle.block_words.proofs.MaskCases.{Flipping}
use Rattle.block_words.proofs.inner.masks.flip.Given as goal

abbrev pub invariant-loop-left : goal.invariant-loop-left
invariant-loop-left l = Flipping l.initial.words l.words l.changed l.mask l.left

abbrev pub decreases-loop-left : goal.decreases-loop-left
decreases-loop-left l = l.left
