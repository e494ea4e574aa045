-- `ask_text::inner::take_byte` meets its contract: the end of a line brings its answer, another byte goes on with the line.
use Rattle.model.proofs.Prelude.{arith, rules}
use Rattle.ask_text.proofs.AnswerSteps.{byte-end, byte-other}
use Rattle.ask_text.proofs.inner.take_byte.Goals as goal

pub returns-then-byte-eq10 : goal.returns-then-byte-eq10
returns-then-byte-eq10 c = search (byte-end, rules)

pub returns : goal.returns
returns c =
    let a = c.args in
    let p = c.byte_after-longer in
    byte-other a.asking a.paths a.rising.now a.falling.now a.byte a.out.now c.if-byte-eq10.false (omega (arith, c.requires.room)) p.result p.ensures
