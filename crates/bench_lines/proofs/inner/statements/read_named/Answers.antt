-- `bench_lines::inner::statements::read_named` meets its contract: by the sign after the name.
use Rattle.model.proofs.Prelude.{rules}
use Rattle.bench_lines.proofs.StateCases.{named-cut, named-names, named-io, named-gate, named_other}
use Rattle.bench_lines.proofs.inner.statements.read_named.Goals as goal

pub returns-then-byte-eq40 : goal.returns-then-byte-eq40
returns-then-byte-eq40 c = search (named-io, named-gate, rules)

pub returns-then-byte-eq61 : goal.returns-then-byte-eq61
returns-then-byte-eq61 c = search (named-io, named-gate, rules)

pub returns-in-End : goal.returns-in-End
returns-in-End c = search (named-cut, named-names, named-io, named-gate, named_other, rules)

pub returns-in-Name : goal.returns-in-Name
returns-in-Name c = search (named-cut, named-names, named-io, named-gate, named_other, rules)

pub returns-else-byte-eq61 : goal.returns-else-byte-eq61
returns-else-byte-eq61 c = search (named-cut, named-names, named-io, named-gate, named_other, rules)
