-- `ask_text::inner::put_answers` meets its contract. The invariant, `AnsweringPiece`: what is put, with the answers to what is left, is the whole.
use Rattle.model.proofs.Prelude.{◌-◌, length}
use Rattle.ask_text.proofs.AnswerSteps.{AnsweringPiece}
use Rattle.ask_text.proofs.inner.put_answers.Given as goal

abbrev pub invariant-loop-i : goal.invariant-loop-i
invariant-loop-i l = AnsweringPiece l.initial.at l.paths l.rising l.falling l.piece l.initial.out l.out l.at l.i
