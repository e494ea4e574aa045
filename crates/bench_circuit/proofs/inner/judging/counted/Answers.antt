-- `bench_circuit::inner::judging::counted` meets its contract: by the answer.
use Rattle.model.proofs.AnswerLaws.{exit}
use Rattle.model.proofs.Prelude.{rules}
use Rattle.bench_circuit.proofs.LineCases.{counted-no, counted-yes}
use Rattle.bench_circuit.proofs.inner.judging.counted.Goals as goal

pub returns-in_err-answer : goal.returns-in_err-answer
returns-in_err-answer c = rw (exit _ _ c.from_residual.ensures.1) (search (c.in_err-answer.was, counted-no, rules))

pub returns : goal.returns
returns c = search (c.in_ok-answer.was, counted-yes, rules)
