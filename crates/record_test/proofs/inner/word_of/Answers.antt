-- `record_test::inner::word_of` meets its contract. The loop's invariant: the bytes from k on are read.
use Rattle.model.proofs.Prelude.{arith, rules}
use Rattle.record_test.proofs.RecordCases.{read-start, read-room, read_step, read_done}
use Rattle.record_test.proofs.inner.word_of.Goals as goal

pub loop-k-init : goal.loop-k-init
loop-k-init c = read-start c.args.part.now c.args.bytes

pub overflow_mul-word : goal.overflow_mul-word
overflow_mul-word c =
    let a = c.before in
    omega (arith, read-room a.requires.0 a.requires.1 c.loop-k.invariant c.loop-k-test.true)

pub bounds-part-k : goal.bounds-part-k
bounds-part-k c = omega (arith, c.loop-k.invariant.within, c.requires.1)

pub returns : goal.returns
returns c =
    let a = c.before in
    read_done a.requires.0 a.requires.1 c.loop-k.invariant (search rules)

pub loop-k-preserved : goal.loop-k-preserved
loop-k-preserved c = search (read-start, read-room, read_step, read_done, rules)

pub overflow_add-word : goal.overflow_add-word
overflow_add-word c = search (read-start, read-room, read_step, read_done, rules)
