-- `bench_lines::inner::statements::at_end` meets its contract: by the next token.
use Rattle.model.proofs.Prelude.{rules}
use Rattle.bench_lines.proofs.StatementLaws.{end-yes, end-sign, end-name}
use Rattle.bench_lines.proofs.inner.statements.at_end.Goals as goal

pub returns-in-End : goal.returns-in-End
returns-in-End c = search (end-yes, rules)

pub returns-in-Sign : goal.returns-in-Sign
returns-in-Sign c = search (end-sign, end-name, rules)

pub returns-in-Name : goal.returns-in-Name
returns-in-Name c = search (end-sign, end-name, rules)
