-- `bench_circuit::inner::judging::add_gate` meets its contract: rule by rule.
use Rattle.model.proofs.Prelude.{rules, not-true, not-false}
use Rattle.bench_circuit.proofs.JudgeCases.{gate-defined, gate-unknown, gate-many, gate-nets, gate-pin-count, gate-added}
use Rattle.bench_circuit.proofs.inner.judging.add_gate.Goals as goal

pub returns-then-net-input_count : goal.returns-then-net-input_count
returns-then-net-input_count c = search (gate-defined, rules)

pub returns-then-not-known : goal.returns-then-not-known
returns-then-not-known c = search (gate-unknown, not-true, rules)

pub returns-then-gate_count-ge511 : goal.returns-then-gate_count-ge511
returns-then-gate_count-ge511 c = search (gate-many, not-false, rules)

pub returns-then-input_count-gate_count-ge512 : goal.returns-then-input_count-gate_count-ge512
returns-then-input_count-gate_count-ge512 c = search (gate-nets, not-false, rules)

pub returns-then-not-fits : goal.returns-then-not-fits
returns-then-not-fits c = search (gate-pin-count, not-true, not-false, rules)

pub returns : goal.returns
returns c = search (gate-added, not-false, rules)
