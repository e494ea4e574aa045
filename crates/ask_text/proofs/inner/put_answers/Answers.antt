-- `ask_text::inner::put_answers` meets its contract. The invariant, `AnsweringPiece`: what is put, with the answers to what is left, is the whole.
use Rattle.model.proofs.Prelude.{◌-◌, rules}
use Rattle.ask_text.proofs.AnswerSteps.{piece-start, piece-next, piece-done}
use Rattle.ask_text.proofs.inner.put_answers.Goals as goal

pub loop-i-init : goal.loop-i-init
loop-i-init c = piece-start _ _ _ _ _ _ c.requires

pub returns : goal.returns
returns c = piece-done _ _ _ _ _ _ c.loop-i.invariant c.loop-i-test.false

pub loop-i-preserved : goal.loop-i-preserved
loop-i-preserved c = search (piece-next, rules)
