-- `bench_lines::inner::statements::read_gate` meets its contract: by its first token.
use Rattle.model.proofs.Prelude.{rules}
use Rattle.bench_lines.proofs.StateCases.{gate-end, gate-sign, gate-named}
use Rattle.bench_lines.proofs.inner.statements.read_gate.Goals as goal

pub returns-in-End : goal.returns-in-End
returns-in-End c = search (gate-end, gate-sign, gate-named, rules)

pub returns-in-Sign : goal.returns-in-Sign
returns-in-Sign c = search (gate-end, gate-sign, gate-named, rules)

pub returns-in-Name : goal.returns-in-Name
returns-in-Name c = search (gate-named, rules)
