-- `block_words::inner::masks::flip` meets its contract. The loop's invariant: the inputs that changed and are not left are flipped.
use Rattle.model.proofs.Prelude.{arith}
use Rattle.block_words.proofs.MaskCases.{flip_start, input-in, rest-less, flip_step, flip_end}
use Rattle.block_words.proofs.inner.masks.flip.Goals as goal

pub loop-left-init : goal.loop-left-init
loop-left-init c = flip_start _ _ _ c.well_formed.1.0.1

pub overflow_cast-j : goal.overflow_cast-j
overflow_cast-j c = omega (arith, input-in _ _ _ c.loop-left.invariant c.loop-left-test.true)

pub offset_bounds-words-j : goal.offset_bounds-words-j
offset_bounds-words-j c = omega (arith, input-in _ _ _ c.loop-left.invariant c.loop-left-test.true)

pub bounds-words-j : goal.bounds-words-j
bounds-words-j c = omega (arith, input-in _ _ _ c.loop-left.invariant c.loop-left-test.true)

pub offset_bounds-words-j-in-loop-left : goal.offset_bounds-words-j-in-loop-left
offset_bounds-words-j-in-loop-left c = omega (arith, input-in _ _ _ c.loop-left.invariant c.loop-left-test.true)

pub bounds-words-j-in-loop-left : goal.bounds-words-j-in-loop-left
bounds-words-j-in-loop-left c = omega (arith, input-in _ _ _ c.loop-left.invariant c.loop-left-test.true)

pub overflow_sub-left : goal.overflow_sub-left
overflow_sub-left c = omega (arith, c.loop-left-test.true)

pub loop-left-smaller : goal.loop-left-smaller
loop-left-smaller c = rest-less _ _ _ c.loop-left.invariant c.loop-left-test.true

pub loop-left-preserved : goal.loop-left-preserved
loop-left-preserved c =
    flip_step _ _ _ c.loop-left.invariant c.loop-left-test.true c.requires

pub returns : goal.returns
returns c = flip_end _ _ _ c.loop-left-test.false c.loop-left.invariant
