-- `bench_lines::inner::statements::gate_kind` meets its contract: by the sign after the kind.
use Rattle.model.proofs.Prelude.{rules}
use Rattle.bench_lines.proofs.StateCases.{gate-cut, gate-names, gate-bad, gate-no-kind, gate-pins}
use Rattle.bench_lines.proofs.inner.statements.gate_kind.Goals as goal

pub returns-then-byte-ne40 : goal.returns-then-byte-ne40
returns-then-byte-ne40 c = search (gate-cut, gate-names, gate-bad, gate-no-kind, gate-pins, rules)

pub returns-then-kind-ge8 : goal.returns-then-kind-ge8
returns-then-kind-ge8 c = search (gate-cut, gate-names, gate-bad, gate-no-kind, gate-pins, rules)

pub returns-in-End : goal.returns-in-End
returns-in-End c = search (gate-cut, gate-names, gate-bad, gate-no-kind, gate-pins, rules)

pub returns-in-Name : goal.returns-in-Name
returns-in-Name c = search (gate-cut, gate-names, gate-bad, gate-no-kind, gate-pins, rules)

pub returns-else-kind-ge8 : goal.returns-else-kind-ge8
returns-else-kind-ge8 c = search (gate-pins, rules)
