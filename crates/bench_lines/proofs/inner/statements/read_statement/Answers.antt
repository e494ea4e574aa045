-- `bench_lines::inner::statements::read_statement` meets its contract: by its first token.
use Rattle.model.proofs.Prelude.{rules}
use Rattle.bench_lines.proofs.StateCases.{line-blank, line-comment, line-sign, line-named}
use Rattle.bench_lines.proofs.inner.statements.read_statement.Goals as goal

pub returns-then-byte-eq35 : goal.returns-then-byte-eq35
returns-then-byte-eq35 c = search (line-blank, line-comment, line-named, rules)

pub returns-in-End : goal.returns-in-End
returns-in-End c = search (line-blank, line-comment, line-named, rules)

pub returns-else-byte-eq35 : goal.returns-else-byte-eq35
returns-else-byte-eq35 c = search (line-sign, line-named, rules)

pub returns-in-Name : goal.returns-in-Name
returns-in-Name c = search (line-named, rules)
