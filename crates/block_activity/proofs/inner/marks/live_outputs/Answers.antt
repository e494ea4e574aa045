-- `block_activity::inner::marks::live_outputs` meets its contract. The loop's invariant: bit p of word t says for each output p before o whether it is live in record t.
use Rattle.model.proofs.Prelude.{arith}
use Rattle.block_words.specs.NetStates.{plane}
use Rattle.block_activity.proofs.OutputMarkCases.{outputs-start, outputs-step, outputs-end}
use Rattle.block_activity.proofs.inner.marks.live_outputs.Goals as goal

pub loop-o-init : goal.loop-o-init
loop-o-init c = outputs-start _ _ _ _

pub offset_bounds-offsets-o : goal.offset_bounds-offsets-o
offset_bounds-offsets-o c = omega (arith, c.loop-o-test.true, c.requires.0)

pub bounds-offsets-o : goal.bounds-offsets-o
bounds-offsets-o c = omega (arith, c.loop-o-test.true, c.requires.0)

pub gate_word-word-requires : goal.gate_word-word-requires
gate_word-word-requires c =
    (c.requires.1 _ c.loop-o-test.true, c.requires.2, c.requires.3)

pub overflow_shl-o : goal.overflow_shl-o
overflow_shl-o c =
    omega (arith, c.loop-o-test.true, c.requires.0)

pub flip-requires : goal.flip-requires
flip-requires c = c.loop-o.invariant.room

pub loop-o-preserved : goal.loop-o-preserved
loop-o-preserved c =
    let args = c.args in
    outputs-step args.offsets.now _ _ (plane args.edge args.words.now) c.loop-o.invariant c.requires.0 c.loop-o-test.true
    c.gate_word-word.ensures c.flip.ensures

pub returns : goal.returns
returns c =
    let args = c.args in
    outputs-end args.offsets.now _ _ (plane args.edge args.words.now) c.loop-o-test.false c.loop-o.invariant
