-- `bench_lines::inner::statements::read_pin` meets its contract: by its first token.
use Rattle.model.proofs.Prelude.{rules}
use Rattle.bench_lines.proofs.StatementLaws.{no-pin-end, no-pin-sign, pin-named}
use Rattle.bench_lines.proofs.inner.statements.read_pin.Goals as goal

pub returns-in-End : goal.returns-in-End
returns-in-End c = search (no-pin-end, no-pin-sign, pin-named, rules)

pub returns-in-Sign : goal.returns-in-Sign
returns-in-Sign c = search (no-pin-end, no-pin-sign, pin-named, rules)

pub returns-in-Name : goal.returns-in-Name
returns-in-Name c = search (pin-named, rules)
