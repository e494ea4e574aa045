-- `bench_circuit::inner::judging::add_output` meets its contract: rule by rule.
use Rattle.model.proofs.Prelude.{rules}
use Rattle.bench_circuit.proofs.JudgeCases.{output-known, output-many, output-added}
use Rattle.bench_circuit.proofs.inner.judging.add_output.Goals as goal

pub returns-then-place-output_count : goal.returns-then-place-output_count
returns-then-place-output_count c = search (output-known, rules)

pub returns-then-output_count-ge64 : goal.returns-then-output_count-ge64
returns-then-output_count-ge64 c = search (output-many, rules)

pub returns : goal.returns
returns c = search (output-added, rules)
