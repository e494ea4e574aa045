-- `block_words::inner::lists::push` meets its contract. The loop's invariant: the records of the word that are not left have their entry.
use Rattle.model.proofs.Prelude.{◌+◌, ◌*◌, ap, arith, rules}
use Rattle.block_words.proofs.PushCases.{push_start, len-few, list-place, left_less, push_step, push_end}
use Rattle.block_words.proofs.inner.lists.push.Goals as goal

pub loop-left-init : goal.loop-left-init
loop-left-init c = push_start c.well_formed.1.1.0.1

pub bounds-list-t : goal.bounds-list-t
bounds-list-t c = search (list-place, rules)

pub overflow_cast-lens : goal.overflow_cast-lens
overflow_cast-lens c =
    omega (arith, len-few c.requires.0 c.loop-left.invariant c.loop-left-test.true c.lowest_record-t.ensures c.wide_word-len.ensures.0)

pub loop-left-smaller : goal.loop-left-smaller
loop-left-smaller c = search (left_less, rules)

pub loop-left-preserved : goal.loop-left-preserved
loop-left-preserved c =
    push_step c.requires.0 c.loop-left.invariant c.loop-left-test.true c.lowest_record-t.ensures c.wide_word-len.ensures.0
    (ap (λ b. 256 * c.args.net + b) c.byte_of-byte.ensures.0)

pub shape_of-list : goal.shape_of-list
shape_of-list c = c.loop-left.invariant.same_length_of

pub returns : goal.returns
returns c = push_end c.loop-left-test.false c.loop-left.invariant
