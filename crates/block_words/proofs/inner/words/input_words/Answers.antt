-- `block_words::inner::words::input_words` meets its contract. The loop's invariant: the words of the inputs before `input` are right, and what is past those of 512 nets is kept.
use Rattle.model.proofs.Prelude.{arith}
use Rattle.block_words.proofs.InputWordCases.{input-start, input-step, input-end}
use Rattle.block_words.proofs.inner.words.input_words.Goals as goal

pub first_records-within-requires : goal.first_records-within-requires
first_records-within-requires c = c.requires.1

pub loop-input-init : goal.loop-input-init
loop-input-init c = (input-start, omega arith)

pub offset_bounds-firsts-input : goal.offset_bounds-firsts-input
offset_bounds-firsts-input c = omega (arith, c.loop-input-test.true, c.requires.0)

pub bounds-firsts-input : goal.bounds-firsts-input
bounds-firsts-input c = omega (arith, c.loop-input-test.true, c.requires.0)

pub offset_bounds-lasts-input : goal.offset_bounds-lasts-input
offset_bounds-lasts-input c = omega (arith, c.loop-input-test.true, c.requires.0)

pub bounds-lasts-input : goal.bounds-lasts-input
bounds-lasts-input c = omega (arith, c.loop-input-test.true, c.requires.0)

pub put_net-requires : goal.put_net-requires
put_net-requires c =
    (omega (arith, c.loop-input-test.true, c.requires.0), omega (arith, c.loop-input.invariant.0.kept.same_length_of, c.requires.2))

pub loop-input-preserved : goal.loop-input-preserved
loop-input-preserved c = (
  input-step _ c.loop-input.invariant.0 (omega (arith, c.loop-input-test.true, c.requires.0)) c.first_records-within.ensures
      c.put_net.ensures c.type_inv.words,
  omega (arith, c.loop-input-test.true),
)

pub shape_of-words : goal.shape_of-words
shape_of-words c = c.loop-input.invariant.0.kept.same_length_of

pub returns : goal.returns
returns c = input-end c.loop-input.invariant.0 c.loop-input.invariant.1 c.loop-input-test.false
