-- `block_activity::inner::marks::gate_word` meets its contract.
use Rattle.model.proofs.Prelude.{arith}
use Rattle.block_activity.proofs.OutputMarkCases.{input-word, driven-word}
use Rattle.block_activity.proofs.inner.marks.gate_word.Goals as goal

pub returns-then-net-inputs : goal.returns-then-net-inputs
returns-then-net-inputs c = input-word c.args.words.now _ _ _ c.if-net-inputs.true

pub overflow_mul-result : goal.overflow_mul-result
overflow_mul-result c = omega (arith, c.requires.0)

pub overflow_add-result : goal.overflow_add-result
overflow_add-result c = omega (arith, c.requires.0, c.requires.1)

pub offset_bounds-words-net : goal.offset_bounds-words-net
offset_bounds-words-net c = omega (arith, c.requires.0, c.requires.1)

pub bounds-words-net : goal.bounds-words-net
bounds-words-net c = omega (arith, c.requires.0, c.requires.1, c.requires.2)

pub returns : goal.returns
returns c =
    driven-word c.args.words.now _ _ _ c.requires.0 c.if-net-inputs.false
