-- `bench_circuit::inner::judging::add_input` meets its contract: rule by rule.
use Rattle.model.proofs.Prelude.{rules}
use Rattle.bench_circuit.proofs.JudgeCases.{input-known, input-many, input-nets, input-added}
use Rattle.bench_circuit.proofs.inner.judging.add_input.Goals as goal

pub returns-then-net-input_count : goal.returns-then-net-input_count
returns-then-net-input_count c = search (input-known, rules)

pub returns-then-input_count-ge64 : goal.returns-then-input_count-ge64
returns-then-input_count-ge64 c = search (input-many, rules)

pub returns-then-input_count-gate_count-ge512 : goal.returns-then-input_count-gate_count-ge512
returns-then-input_count-gate_count-ge512 c = search (input-nets, rules)

pub returns : goal.returns
returns c = search (input-added, rules)
