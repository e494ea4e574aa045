-- `bench_circuit::inner::judging::judge_line` meets its contract: by its statement.
use Rattle.model.proofs.Prelude.{rules}
use Rattle.bench_circuit.proofs.LineCases.{room-names, line-input-name, line-output-name, line-gate-name, line-gate-inside, line-blank, line_other, line-input, line-output, line-gate}
use Rattle.bench_circuit.proofs.inner.judging.judge_line.Statement.{statement}
use Rattle.bench_circuit.proofs.inner.judging.judge_line.Tie as tie

ruleset line-cases = (line-blank, line_other, line-input, line-output, line-gate, rules)

pub judge_line_spec : {M : Type 1} → statement M
judge_line_spec =
    tie.close
    (tie.spec
    (λ c κs. search rules) (λ c. search rules) (λ c. search rules) (λ c. search rules)
    (λ c κs. search (line-input-name, room-names, rules))
    (λ c. search rules) (λ c κs. search rules) (λ c. search rules)
    (λ c κs. search (line-output-name, rules))
    (λ c. search rules) (λ c κs. search rules) (λ c. search rules)
    (λ c κs. search (line-gate-name, line-gate-inside, room-names, rules))
    (λ c. search rules) (λ c κs. search rules)
    (λ c. search line-cases)
    (λ c. search line-cases)
    (λ c. search rules) (λ c. search rules)
    (λ c. search line-cases)
    (λ c. search rules)
    (λ c. search line-cases)
    (λ c. search rules) (λ c. search rules)
    (λ c. search line-cases))
