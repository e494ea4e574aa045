-- `bench_lines::inner::statements::read_io` meets its contract: by its first token.
use Rattle.model.proofs.Prelude.{rules}
use Rattle.bench_lines.proofs.StateCases.{io_end, io_sign, io_named}
use Rattle.bench_lines.proofs.inner.statements.read_io.Goals as goal

pub returns-in-End : goal.returns-in-End
returns-in-End c = search (io_end, io_sign, io_named, rules)

pub returns-in-Sign : goal.returns-in-Sign
returns-in-Sign c = search (io_end, io_sign, io_named, rules)

pub returns-in-Name : goal.returns-in-Name
returns-in-Name c = search (io_named, rules)
